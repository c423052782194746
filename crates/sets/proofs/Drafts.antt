-- Shafts and treadles of a draft that lent words show: all are below 64, and used treadles have ties.
use Rattle.std.proofs.Common.{◌≡◌, ℕ, ◌<◌, ◌≤◌, true, false, length, sym, ap, ◌∙◌, inl, inr, arith}
use Rattle.std.proofs.lemmas.Bool.{cases_Bool}
use Rattle.weave.specs.Rows.{Row, written, below}
use Rattle.weave.specs.Cloth.{Draft, among}
use Rattle.weave.proofs.Rows.{below_more}
use Rattle.weave.proofs.Cloth.{used_below}
use Rattle.weave.proofs.Sound.{good_below}
use Rattle.rows.specs.Rows.{row_in}
use Rattle.lent.specs.Bits.{bit}
use Rattle.lent.specs.Shows.{Shows}
use Rattle.lent.specs.declared.Lent.{Lent}
use Rattle.lent.proofs.Shown.{shown_threading, shown_treadling}
use Rattle.sets.specs.Uses.{Uses}
use Rattle.sets.specs.declared.in_use.InUse.{InUse}

-- a row has no number that is not below what it is below
pub not_used : (m : ℕ) (r : Row) (n : ℕ) → below m r ≡ true → m ≤ n → among n (written r) ≡ false
not_used m r n b h = elim (cases_Bool (among n (written r))) [ inl e ↦ absurd (let k = used_below m r n b e in omega arith) | inr e ↦ e ]

module _ (l : Lent) where
  pub threading_low : below 64 (row_in l.threading) ≡ true
  threading_low = good_below 64 (row_in l.threading) l.good.shafts

  pub treadling_low : below 64 (row_in l.treadling) ≡ true
  treadling_low = below_more (length l.ties.now) 64 (row_in l.treadling) l.good.few (good_below (length l.ties.now) (row_in l.treadling) l.good.treadles)

-- each draft that the words show uses what they use
pub uses_of : (d : Draft) (u : InUse) → Shows d u.draft → Uses d u
uses_of d u shows = record {
  shafts = λ n. u.used.of_ends n ∙ ap (λ (r : Row). among n (written r)) (shown_threading d u.draft shows);
  treadles = λ n. u.used.of_picks n ∙ ap (λ (r : Row). among n (written r)) (shown_treadling d u.draft shows);
}

module _ (d : Draft) (l : Lent) (shows : Shows d l) where
  pub threading_below : below 64 d.threading ≡ true
  threading_below = good_below 64 d.threading shows.threading_good

  pub treadling_tied : below (length l.ties.now) d.treadling ≡ true
  treadling_tied = good_below (length l.ties.now) d.treadling shows.treadling_good

  pub treadling_below : below 64 d.treadling ≡ true
  treadling_below = below_more (length l.ties.now) 64 d.treadling shows.few treadling_tied

  module _ (u : InUse) (uses : Uses d u) where
    pub shaft_few : (s : ℕ) → bit u.shafts s ≡ true → s < 64
    shaft_few s h = used_below 64 d.threading s threading_below (sym (uses.shafts s) ∙ h)

    pub treadle_tied : (t : ℕ) → bit u.treadles t ≡ true → t < length l.ties.now
    treadle_tied t h = used_below (length l.ties.now) d.treadling t treadling_tied (sym (uses.treadles t) ∙ h)
