use Rattle.std.proofs.Common.{rules, tests, ◌≡◌, ℕ, ◌<◌, ◌≤◌, Bool, true, false, not, ◌||◌, List, length, get_or, sym, refl, ap, ◌∙◌, inl, inr, arith}
use Rattle.std.specs.List.{range_with_len, zip, AllWithin, HoldsAt}
use Rattle.std.proofs.lemmas.Bool.{or_cases, or_parts, both_ways, not-true, not-false}
use Rattle.std.proofs.lemmas.Iterator.{cases_from_all, YieldsList-from_zip, YieldsList-from_range, YieldsList-from_slice}
use Rattle.std.proofs.lemmas.List.FromFn.{length-range_with_len, get_or-range_with_len}
use Rattle.std.proofs.lemmas.Slice.Zip.{length-zip, get_or-zip}
use Rattle.weave.specs.Rows.{written}
use Rattle.weave.specs.Cloth.{Draft, among, lifts}
use Rattle.weave.proofs.Cloth.{used_below}
use Rattle.lent.specs.Bits.{bit}
use Rattle.lent.specs.Shows.{Shows}
use Rattle.lent.specs.declared.Lent.{Lent}
use Rattle.layering.specs.Layers.{LeftDown}
use Rattle.sets.specs.Uses.{Uses}
use Rattle.sets.specs.declared.in_use.InUse.{InUse}
use Rattle.sets.proofs.Drafts.{uses_of, treadling_tied}
use Rattle.layers.proofs.is_always_lifted.Goals as goal

-- a treadle, with its ties, lifts a shaft, or isn't used
abbrev lifted : ℕ → ℕ → ℕ × ℕ → Bool
lifted ut s p = bit p.1 s || not (bit ut p.0)

module _ (ties : List ℕ) (few : length ties ≤ 64) where
  long : length (zip (range_with_len 0 64) ties) ≡ length ties
  long = length-zip (range_with_len 0 64) ties ∙ omega (arith, length-range_with_len 0 64)

  numbered : (t : ℕ) → t < length ties → get_or (zip (range_with_len 0 64) ties) t (0, 0) ≡ (t, get_or ties t 0)
  numbered t h =
      get_or-zip (range_with_len 0 64) ties t (0, 0) (omega (arith, length-range_with_len 0 64)) h
      ∙ ap (λ (k : ℕ). (k, get_or ties t 0)) (get_or-range_with_len 0 64 t 0 (omega arith) ∙ omega arith)

module _ (d : Draft) (l : Lent) (shows : Shows d l) (u : InUse) (uses : Uses d u) (s : ℕ) (small : s < 64) where
  all_lift : AllWithin (λ p. lifted u.treadles s p ≡ true) (zip (range_with_len 0 64) l.ties.now) 0 (length (zip (range_with_len 0 64) l.ties.now)) → (t : ℕ) → among t (written d.treadling) ≡ true → lifts d.tied t s ≡ true
  all_lift all t used =
      let h = used_below (length l.ties.now) d.treadling t (treadling_tied d l shows) used in
      let y : lifted u.treadles s (t, get_or l.ties.now t 0) ≡ true = rw (numbered l.ties.now shows.few t h) at (all t (0, 0) (omega arith) (omega (arith, long l.ties.now shows.few))) in
      elim (or_cases (bit (get_or l.ties.now t 0) s) (not (bit u.treadles t)) y) [
        | inl o ↦ sym (shows.tied t s h small) ∙ o
        | inr o ↦ absurd (both_ways (bit u.treadles t) (not-true (bit u.treadles t) o) (uses.treadles t ∙ used))
      ]

  one_leaves : (t : ℕ) × (t < length (zip (range_with_len 0 64) l.ties.now)) × HoldsAt (λ p. lifted u.treadles s p ≡ false) (zip (range_with_len 0 64) l.ties.now) t → LeftDown d s
  one_leaves w =
      let h : w.0 < length l.ties.now = omega (arith, w.1, long l.ties.now shows.few) in
      let y : lifted u.treadles s (w.0, get_or l.ties.now w.0 0) ≡ false = rw (numbered l.ties.now shows.few w.0 h) at (w.2 (0, 0)) in
      let p = or_parts (bit (get_or l.ties.now w.0 0) s) (not (bit u.treadles w.0)) y in
      (w.0, sym (uses.treadles w.0) ∙ not-false (bit u.treadles w.0) p.1, sym (shows.tied w.0 s h small) ∙ p.0)

pub returns : goal.returns
returns c =
    let told =
    cases_from_all {s = c.zip.result} c.all.new.self _ c.all.result (λ p. lifted c.args.used.treadles c.args.shaft p ≡ true) (λ p. lifted c.args.used.treadles c.args.shaft p ≡ false)
    c.all.ensures.ran (YieldsList-from_zip (YieldsList-from_range 0 64 64 (cc) refl) (YieldsList-from_slice c.args.used.draft.ties.now (cc))) (λ x q k. search (rules, tests)) (λ x q k. search (rules, tests)) in
    record {
      up = λ d w e. all_lift d c.args.used.draft w c.args.used (uses_of d c.args.used w) c.args.shaft c.requires (rw e at told);
      down = λ d w e. one_leaves d c.args.used.draft w c.args.used (uses_of d c.args.used w) c.args.shaft c.requires (rw e at told);
    }
