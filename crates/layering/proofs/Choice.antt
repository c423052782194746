-- What something needs as a layer: when it lacks nothing cloth hangs together, and the smallest that lacks something is the topmost. Assumes nothing.
use Rattle.std.proofs.Common.{◌≡◌, ℕ, ◌+◌, ◌-◌, ◌<◌, ◌≤◌, Bool, true, false, not, ◌&&◌, ◌||◌, eqb, ltb, get_or, sym, ap, ◌∙◌, subst, inl, inr, arith}
use mathlib.Core.Path.{fun_ext}
use mathlib.Core.Bool.{and-true}
use Rattle.std.proofs.lemmas.Bool.{cases_Bool, cases_lt, cases_order, and_parts, and_from, not-true, not_from_false, both_ways, or_cases, or_right, lt-ltb, ltb-true, eqb-true}
use Rattle.weave.specs.Rows.{written, long, below}
use Rattle.weave.specs.Cloth.{Draft, LieOver, HangsTogether, among, shaft_of, treadle_of}
use Rattle.weave.proofs.Cloth.{shaft_below, treadle_below, used_below}
use Rattle.weave.proofs.Counts.{count_fewer, count_more, find}
use Rattle.weave.proofs.Differ.{same_test}
use Rattle.weave.proofs.Reach.{reached, reached_self, reached_on, reached_kept}
use Rattle.weave.proofs.Layers.{needs, is_used, needs_used, needs_why, used_shaft, used_treadle, shaft_needs_parts, treadle_needs_parts, closed_lies, hangs_reached}
use Rattle.lent.specs.Bits.{bit, bits_of}
use Rattle.lent.proofs.Bits.{bit_at}
use Rattle.sets.proofs.Members.{same_set}
use Rattle.layering.specs.Needs.{at_once, needed, needed_in, how_many, how_many_used, EnoughRounds}
use Rattle.layering.specs.Layers.{OverAll, Lacks, OneTopmost}
use Rattle.layering.proofs.Rounds.{rounds_enough}
use Rattle.layering.proofs.Sets.{no_high_bits}

-- a need is of something that is used
needs_from : (d : Draft) (i j : ℕ) → needs d 64 i j ≡ true → is_used d 64 i ≡ true
needs_from d i j e =
    elim (needs_why d 64 i j e) [
      | inl w ↦ used_shaft d 64 i w.1 ∙ (shaft_needs_parts d i w.0 w.3).0
      | inr w ↦ rw w.2 (used_treadle d 64 w.0 ∙ (treadle_needs_parts d w.0 j w.3).1)
    ]

module _ (d : Draft) (bc : below 64 d.threading ≡ true) (br : below 64 d.treadling ≡ true) where
  pub used_inside : (i : ℕ) → is_used d 64 i ≡ true → i < 128
  used_inside i u =
      elim (cases_lt i 64) [
        | inl h ↦ omega arith
        | inr h ↦
            let e : i ≡ 64 + (i - 64) = omega arith in
            let k = used_below 64 d.treadling (i - 64) br (sym (used_treadle d 64 (i - 64)) ∙ (ap (is_used d 64) (sym e) ∙ u)) in
            omega arith
      ]

  needs_inside : (i j : ℕ) → needs d 64 i j ≡ true → j < 128
  needs_inside i j e = used_inside j (needs_used d 64 i j e)

  module _ (x : ℕ) (ux : is_used d 64 x ≡ true) where
    pub needed_used : (j : ℕ) → needed d x j ≡ true → is_used d 64 j ≡ true
    needed_used = reached_kept (needs d 64) 128 x (λ j. is_used d 64 j ≡ true) ux (λ i j h p e. needs_used d 64 i j e)

    pub rounds_few : (k j : ℕ) → how_many_used d ≤ k → needed_in d k x j ≡ needed d x j
    rounds_few = rounds_enough (needs d 64) 128 needs_inside x (used_inside x ux) (is_used d 64) ux (needs_used d 64)

    -- what lacks something has fewer
    pub lacks_fewer : Lacks d x → how_many d x < how_many_used d
    lacks_fewer w = count_more (needed d x) (is_used d 64) 128 (λ i l. needed_used i) w.0 (used_inside w.0 w.1) w.2 w.1

    whole : how_many_used d ≤ how_many d x → (j : ℕ) → is_used d 64 j ≡ true → needed d x j ≡ true
    whole many j u = elim (cases_Bool (needed d x j)) [ inl t ↦ t | inr t ↦ absurd (let few = lacks_fewer (j, u, t) in omega arith) ]

    pub fewer_lacks : how_many d x < how_many_used d → Lacks d x
    fewer_lacks few =
        elim (find (λ j. is_used d 64 j && not (needed d x j)) 128) [
          | inl w ↦ let b = and_parts (is_used d 64 w.0) (not (needed d x w.0)) w.2 in (w.0, b.0, not-true (needed d x w.0) b.1)
          | inr none ↦
              absurd
              (let all = count_fewer (is_used d 64) (needed d x) 128
              (λ j l u.
              elim (cases_Bool (needed d x j)) [
                | inl t ↦ t
                | inr t ↦ absurd (both_ways (is_used d 64 j && not (needed d x j)) (none j l) (and_from (is_used d 64 j) (not (needed d x j)) u (not_from_false (needed d x j) t)))
              ]) in
              omega arith)
        ]

    -- along the arrows to itself and to what it needs at once the same is reached
    pub reached_needed : (j : ℕ) → reached (at_once d) 128 x j ≡ needed d x j
    reached_needed j =
        same_test (reached (at_once d) 128 x j) (needed d x j)
        (reached_kept (at_once d) 128 x (λ l. needed d x l ≡ true) (reached_self (needs d 64) 128 x)
        (λ i l h p e.
        elim (or_cases (eqb l i) (needs d 64 i l) (and_parts (is_used d 64 i) (eqb l i || needs d 64 i l) e).1) [
          | inl q ↦ rw (eqb-true l i q) p
          | inr q ↦ reached_on (needs d 64) 128 x i l h (needs_inside i l q) p q
        ]) j)
        (reached_kept (needs d 64) 128 x (λ l. reached (at_once d) 128 x l ≡ true) (reached_self (at_once d) 128 x)
        (λ i l h p q.
        reached_on (at_once d) 128 x i l h (needs_inside i l q) p
        (and_from (is_used d 64 i) (eqb l i || needs d 64 i l) (needs_from d i l q) (or_right (eqb l i) (needs d 64 i l) q))) j)

  module _ (hc : 0 < long d.threading) (hr : 0 < long d.treadling) where
    -- where everything needs everything that is used cloth hangs together
    pub hangs : ((x : ℕ) → is_used d 64 x ≡ true → how_many_used d ≤ how_many d x) → HangsTogether d
    hangs many = hangs_reached 64 64 d hc hr bc br (λ i j ui uj. whole i ui (many i ui) j uj)

    module _ (x : ℕ) (ux : is_used d 64 x ≡ true) (lacks : Lacks d x) (ss ts : ℕ) (shafts : (s : ℕ) → bit ss s ≡ (needed d x s && ltb s 64)) (treadles : (t : ℕ) → bit ts t ≡ needed d x (64 + t)) where
      shaft_used : (s : ℕ) → bit ss s ≡ true → among s (written d.threading) ≡ true
      shaft_used s e =
          let b = and_parts (needed d x s) (ltb s 64) (sym (shafts s) ∙ e) in
          sym (used_shaft d 64 s (ltb-true s 64 b.1)) ∙ needed_used x ux s b.0

      treadle_used : (t : ℕ) → bit ts t ≡ true → among t (written d.treadling) ≡ true
      treadle_used t e = sym (used_treadle d 64 t) ∙ needed_used x ux (64 + t) (sym (treadles t) ∙ e)

      pub over_all : OverAll d ss ts
      over_all =
          record {
            lie = λ m n bm bn.
                subst (λ ps. LieOver d (record { ends = λ c. get_or (bits_of m ss) (shaft_of d c) false; picks = ps })) (fun_ext (λ r. sym (pick_in n bn r)))
                (subst (λ es. LieOver d (record { ends = es; picks = λ r. needed d x (64 + treadle_of d r) })) (fun_ext (λ c. sym (end_in m bm c)))
                (closed_lies 64 64 d hc hr bc br (needed d x) (reached_on (needs d 64) 128 x) (x, ux, reached_self (needs d 64) 128 x) lacks));
            shafts_used = shaft_used;
            treadles_used = treadle_used;
            shafts_below = λ m bm.
                no_high_bits ss m
                (λ s l. elim (cases_Bool (bit ss s)) [ inl e ↦ absurd (let k = used_below m d.threading s bm (shaft_used s e) in omega arith) | inr e ↦ e ]);
            treadles_below = λ n bn.
                no_high_bits ts n
                (λ t l. elim (cases_Bool (bit ts t)) [ inl e ↦ absurd (let k = used_below n d.treadling t bn (treadle_used t e) in omega arith) | inr e ↦ e ]);
          }
        where
          end_in : (m : ℕ) → below m d.threading ≡ true → (c : ℕ) → get_or (bits_of m ss) (shaft_of d c) false ≡ needed d x (shaft_of d c)
          end_in m bm c =
              bit_at m ss (shaft_of d c) (shaft_below m d c bm hc)
              ∙ (shafts (shaft_of d c) ∙ (ap (λ (t : Bool). needed d x (shaft_of d c) && t) (lt-ltb (shaft_of d c) 64 (shaft_below 64 d c bc hc)) ∙ and-true (needed d x (shaft_of d c))))

          pick_in : (n : ℕ) → below n d.treadling ≡ true → (r : ℕ) → get_or (bits_of n ts) (treadle_of d r) false ≡ needed d x (64 + treadle_of d r)
          pick_in n bn r = bit_at n ts (treadle_of d r) (treadle_below n d r bn hr) ∙ treadles (treadle_of d r)

-- the laws
pub enough_rounds : EnoughRounds
unfolding EnoughRounds
enough_rounds d x k j bc br ux h = rounds_few d bc br x ux k j h

pub one_topmost : OneTopmost
unfolding OneTopmost
one_topmost d ss ts us vs p q =
    let e : p.of ≡ q.of =
    elim (cases_order p.of q.of) [
      | inl e ↦ e
      | inr o ↦
          elim o [
            | inl l ↦ absurd (let f = q.first p.of l p.used p.lacks in let g = p.fewest q.of q.used q.lacks in omega arith)
            | inr l ↦ absurd (let f = p.first q.of l q.used q.lacks in let g = q.fewest p.of p.used p.lacks in omega arith)
          ]
    ] in (
      same_set ss us (λ s. p.shafts s ∙ (ap (λ (x : ℕ). needed d x s && ltb s 64) e ∙ sym (q.shafts s))),
      same_set ts vs (λ t. p.treadles t ∙ (ap (λ (x : ℕ). needed d x (64 + t)) e ∙ sym (q.treadles t))),
    )
