-- Alike and needed, of the draft that lent words show.
use Rattle.std.proofs.Common.{◌≡◌, ℕ, ◌<◌, true, not, ◌&&◌, eqb, List, length, get_or, sym, ◌∙◌, ap₂, inl, inr}
use lib.Bits.{bit_and}
use Rattle.std.proofs.lemmas.Bool.{cases_Bool, and_left}
use Rattle.weave.specs.Rows.{written}
use Rattle.weave.specs.Cloth.{Draft, lifts, among, same_on}
use Rattle.weave.proofs.Rows.{length_written, written_below}
use Rattle.weave.proofs.Differ.{kinds_swap, eqb_kinds, same_by_alike, same_on_alike}
use Rattle.lent.specs.Bits.{bit}
use Rattle.lent.specs.Shows.{Shows}
use Rattle.lent.specs.declared.Lent.{Lent}
use Rattle.sets.specs.Uses.{Uses}
use Rattle.sets.specs.declared.in_use.InUse.{InUse}
use Rattle.sets.proofs.Drafts.{treadling_tied, shaft_few, treadle_tied}
use Rattle.tieup.specs.Alike.{alike_shafts, alike_treadles}
use Rattle.tieup.specs.Kinds.{shafts_few}
use Rattle.tieup.proofs.Ties.{differ, differ_alike, kept, kept_all, common_alike}

-- of two numbers one is used: both are if the other is
both_used : (w : ℕ) (xs : List ℕ) (s n : ℕ) → ((k : ℕ) → bit w k ≡ among k xs) → bit w s ≡ true → bit w n ≡ (among s xs && among n xs)
both_used w xs s n uses used = rw (sym (uses s) ∙ used) (uses n)

module _ (d : Draft) (l : Lent) (shows : Shows d l) where
  treadles_tied : (i : ℕ) → i < length (written d.treadling) → get_or (written d.treadling) i 0 < length l.ties.now
  treadles_tied i h = written_below (length l.ties.now) d.treadling i (treadling_tied d l shows) (rw (length_written d.treadling) at h)

  module _ (u : InUse) (uses : Uses d u) where
    -- a shaft that is lifted with another by every used treadle
    pub shafts_alike : (s n : ℕ) → n < 64 → bit u.shafts s ≡ true
        → (bit u.shafts n && not (differ (bit u.treadles) (λ k. bit (get_or l.ties.now k 0) s) (λ k. bit (get_or l.ties.now k 0) n) (length l.ties.now))) ≡ alike_shafts d s n
    shafts_alike s n h used =
        ap₂ ◌&&◌ (both_used u.shafts (written d.threading) s n uses.shafts used)
        (differ_alike (λ t v. lifts d.tied t v) (written d.treadling) (length l.ties.now) treadles_tied (bit u.treadles) _ _ s n uses.treadles
        (λ k j. shows.tied k s j (shaft_few d l shows u uses s used)) (λ k j. shows.tied k n j h)
        ∙ sym (same_by_alike d.tied (written d.treadling) s n))

    -- a treadle that lifts the same used shafts as another
    pub treadles_alike : (t n : ℕ) → bit u.treadles t ≡ true
        → kept (bit u.treadles n) (λ k. eqb (bit_and (get_or l.ties.now k 0) u.shafts) (bit_and (get_or l.ties.now t 0) u.shafts)) (length l.ties.now) n ≡ alike_treadles d t n
    treadles_alike t n used =
        elim (cases_Bool (bit u.treadles n)) [
          | inl e ↦
              kept_all (bit u.treadles n) (λ k. eqb (bit_and (get_or l.ties.now k 0) u.shafts) (bit_and (get_or l.ties.now t 0) u.shafts)) (length l.ties.now) n (treadle_tied d l shows u uses n e)
              ∙ ap₂ ◌&&◌ both (kinds_swap eqb eqb_kinds _ _ ∙ common (treadle_tied d l shows u uses n e))
          | inr e ↦ and_left _ _ e ∙ sym (and_left _ (same_on d.tied (written d.threading) t n) (sym both ∙ e))
        ]
      where
        both : bit u.treadles n ≡ (among t (written d.treadling) && among n (written d.treadling))
        both = both_used u.treadles (written d.treadling) t n uses.treadles used

        common : n < length l.ties.now → eqb (bit_and (get_or l.ties.now t 0) u.shafts) (bit_and (get_or l.ties.now n 0) u.shafts) ≡ same_on d.tied (written d.threading) t n
        common h =
            common_alike (λ s v. lifts d.tied v s) (written d.threading) (shafts_few d l shows) u.shafts (get_or l.ties.now t 0) (get_or l.ties.now n 0) t n uses.shafts
            (λ s j. shows.tied t s (treadle_tied d l shows u uses t used) j) (λ s j. shows.tied n s h j)
            ∙ sym (same_on_alike d.tied (written d.threading) t n)
