-- Cloth seen otherwise: from behind, turned by a quarter, and threaded from the other side. Assumes nothing.
use Rattle.std.proofs.Common.{◌≡◌, ℕ, ◌<◌, Bool, true, false, not, List, [], map, length, get_or, sym, refl, ap, ◌∙◌, inl, inr, arith}
use mathlib.Core.Path.{fun_ext}
use Rattle.std.specs.List.{range_with_len}
use Rattle.std.proofs.lemmas.List.FromFn.{get_or-map-range_with_len}
use Rattle.std.proofs.lemmas.Bool.{not-true, not-false, not_from_true, not_from_false}
use Rattle.weave.specs.Rows.{written, long}
use Rattle.weave.specs.Cloth.{Draft, Some, LieOver, warp_over, lifts, shaft_of, treadle_of, shafts_needed, treadles_needed}
use Rattle.weave.specs.Promise.{FromBehind, Mirrored, mirrored}
use Rattle.weave.proofs.Rows.{bound, below_bound}
use Rattle.weave.proofs.Cloth.{shaft_below, treadle_below, among_reversed, cell_at}
use Rattle.weave.proofs.Differ.{same_test, alike, alike_at, alike_all, different_same, shafts_alike, treadles_alike}
use Rattle.weave.proofs.Floats.{end_over, pick_over, ends_float, picks_float, float_alike, largest, largest_reversed, shaft_over, treadle_over, ends_by_shafts, picks_by_treadles}
use Rattle.weave.proofs.Layers.{hangs_members}
use Rattle.weave.proofs.Runs.{longest_round, round_reversed}
use Rattle.laws.specs.Laws.{quarter_turned, Turns, QuarterTurned}

not_not : (b : Bool) → not (not b) ≡ b
not_not true = refl
not_not false = refl

-- threads that aren't among some
others : Some → Some
others s = record { ends = λ c. not (s.ends c); picks = λ r. not (s.picks r) }

lie_under : (d e : Draft) → ((r c : ℕ) → warp_over e r c ≡ not (warp_over d r c)) → (s : Some) → LieOver e s → LieOver d (others s)
unfolding LieOver others
lie_under d e turn s o = (
  λ r c p q. not-false (warp_over d r c) (rw turn at (o.1 r c (not-true (s.ends c) p) (not-false (s.picks r) q))),
  λ r c p q. not-true (warp_over d r c) (rw turn at (o.0 r c (not-false (s.ends c) p) (not-true (s.picks r) q))),
  elim o.3 [ inl x ↦ inl (x.0, not_from_false (s.ends x.0) x.1) | inr x ↦ inr (x.0, not_from_false (s.picks x.0) x.1) ],
  elim o.2 [ inl x ↦ inl (x.0, not_from_true (s.ends x.0) x.1) | inr x ↦ inr (x.0, not_from_true (s.picks x.0) x.1) ],
)

pub from_behind : FromBehind
unfolding FromBehind
from_behind d e p q turn = (
  ends_float e true
      ∙ (float_alike (end_over e true) (end_over d false) (long e.threading) (long e.treadling) (λ c r. turn r c)
      ∙ rw (p, q) (sym (ends_float d false))),
  picks_float e true
      ∙ (float_alike (pick_over e true) (pick_over d false) (long e.treadling) (long e.threading) (λ r c. rw (turn r c) (not_not (warp_over d r c)))
      ∙ rw (p, q) (sym (picks_float d false))),
  λ hangs s o. hangs (others s) (lie_under d e turn s o),
)

-- ends for picks, and picks for ends
swapped : Some → Some
swapped s = record { ends = s.picks; picks = s.ends }

module _ (d : Draft) (ts : List (List Bool)) (turn : Turns ts d) where
  abbrev e : Draft
  e = quarter_turned ts d

  lie_swapped : (s : Some) → LieOver e s → LieOver d (swapped s)
  unfolding LieOver swapped
  lie_swapped s o = (
    λ r c p q. not-false (warp_over d r c) (sym (turn c r) ∙ o.1 c r q p),
    λ r c p q. not-true (warp_over d r c) (sym (turn c r) ∙ o.0 c r q p),
    elim o.2 [ inl x ↦ inr x | inr x ↦ inl x ],
    elim o.3 [ inl x ↦ inr x | inr x ↦ inl x ],
  )

  -- told apart by what is over or by what is under is the same
  alike_turned : (over over' : ℕ → ℕ → Bool) (us : List ℕ) (a b : ℕ)
      → ((k : ℕ) → k < length us → over' (get_or us k 0) a ≡ not (over (get_or us k 0) a)) → ((k : ℕ) → k < length us → over' (get_or us k 0) b ≡ not (over (get_or us k 0) b))
      → alike over' us a b ≡ alike over us a b
  alike_turned over over' us a b at_a at_b =
      same_test (alike over' us a b) (alike over us a b)
      (λ h.
      alike_all over us a b
      (λ k l.
      sym (not_not (over (get_or us k 0) a))
      ∙ (ap not (sym (at_a k l) ∙ (alike_at over' us a b h k l ∙ at_b k l)) ∙ not_not (over (get_or us k 0) b))))
      (λ h. alike_all over' us a b (λ k l. at_a k l ∙ (ap not (alike_at over us a b h k l) ∙ sym (at_b k l))))

  cell_turned : (r c : ℕ) → r < length (written d.threading) → c < length (written d.treadling)
      → lifts ts (get_or (written d.threading) r 0) (get_or (written d.treadling) c 0) ≡ not (lifts d.tied (get_or (written d.treadling) c 0) (get_or (written d.threading) r 0))
  cell_turned r c h k = cell_at e r c h k ∙ (turn r c ∙ ap not (sym (cell_at d c r k h)))

  shafts_turned : shafts_needed e ≡ treadles_needed d
  shafts_turned =
      shafts_alike e
      ∙ (different_same
      (alike (λ t s. lifts ts t s) (written d.threading))
      (alike (λ s t. lifts d.tied t s) (written d.threading))
      (written d.treadling)
      (λ i j p q.
      alike_turned (λ s t. lifts d.tied t s) (λ t s. lifts ts t s) (written d.threading) (get_or (written d.treadling) i 0) (get_or (written d.treadling) j 0)
      (λ k l. cell_turned k i l p)
      (λ k l. cell_turned k j l q))
      ∙ sym (treadles_alike d))

  treadles_turned : treadles_needed e ≡ shafts_needed d
  treadles_turned =
      treadles_alike e
      ∙ (different_same
      (alike (λ s t. lifts ts t s) (written d.treadling))
      (alike (λ t s. lifts d.tied t s) (written d.treadling))
      (written d.threading)
      (λ i j p q.
      alike_turned (λ t s. lifts d.tied t s) (λ s t. lifts ts t s) (written d.treadling) (get_or (written d.threading) i 0) (get_or (written d.threading) j 0)
      (λ k l. cell_turned i k p l)
      (λ k l. cell_turned j k q l))
      ∙ sym (shafts_alike d))

-- the tie-up that turns a draft: treadles for shafts, and what wasn't lifted is
turned_ties : (d : Draft) → 0 < long d.threading → 0 < long d.treadling → (ts : List (List Bool)) × Turns ts d
turned_ties d hc hr =
    let m : ℕ = bound d.threading in
    let n : ℕ = bound d.treadling in
    let row : ℕ → List Bool = λ s. map (λ t. not (lifts d.tied t s)) (range_with_len 0 n) in (
      map row (range_with_len 0 m),
      λ r c.
          ap (λ (bs : List Bool). get_or bs (treadle_of d c) false)
          (get_or-map-range_with_len row 0 m (shaft_of d r) (shaft_of d r) [] (shaft_below m d r (below_bound d.threading) hc) (omega arith))
          ∙ get_or-map-range_with_len (λ t. not (lifts d.tied t (shaft_of d r))) 0 n (treadle_of d c) (treadle_of d c) false (treadle_below n d c (below_bound d.treadling) hr) (omega arith),
    )

pub turned_by_quarter : QuarterTurned
turned_by_quarter d hc hr = (
  turned_ties d hc hr,
  λ ts face turn. (
    ends_float (quarter_turned ts d) face
        ∙ (float_alike (end_over (quarter_turned ts d) face) (pick_over d face) (long d.treadling) (long d.threading)
        (λ c r. rw (turn r c, not_not (warp_over d c r)))
        ∙ sym (picks_float d face)),
    picks_float (quarter_turned ts d) face
        ∙ (float_alike (pick_over (quarter_turned ts d) face) (end_over d face) (long d.threading) (long d.treadling)
        (λ r c. rw (turn r c, not_not (warp_over d c r)))
        ∙ sym (ends_float d face)),
    shafts_turned d ts turn,
    treadles_turned d ts turn,
    λ hangs s o. hangs (swapped s) (lie_swapped d ts turn s o),
    λ hangs s o. hangs (swapped s) (lie_swapped (quarter_turned ts d) d.tied (λ r c. sym (ap not (turn c r) ∙ not_not (warp_over d r c))) s o),
  ),
)

-- the threading from its end
pub from_other_side : Mirrored
unfolding Mirrored written long
from_other_side d b hc hr = (
  hangs_members d (mirrored d) hc hr hc hr refl (λ s. sym (among_reversed s (written d.threading))) (λ t. refl),
  ends_by_shafts (mirrored d) b
      ∙ (largest_reversed (λ s. longest_round (shaft_over d b s) (written d.treadling)) (written d.threading)
      ∙ sym (ends_by_shafts d b)),
  picks_by_treadles (mirrored d) b
      ∙ (ap (λ (g : ℕ → ℕ). largest g (written d.treadling)) (fun_ext (λ t. round_reversed (treadle_over d b t) (written d.threading)))
      ∙ sym (picks_by_treadles d b)),
)
