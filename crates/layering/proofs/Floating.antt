-- A shaft that every used treadle lifts needs nothing else; the first of these is the topmost layer. Assumes nothing.
use Rattle.std.proofs.Common.{◌≡◌, ℕ, zero, suc, ◌+◌, ◌<◌, ◌≤◌, Bool, true, false, not, ◌&&◌, eqb, ltb, sym, refl, ◌∙◌, inl, inr, arith}
use Rattle.std.proofs.lemmas.Bool.{cases_eq, and_from, and_left, not_from_false, both_ways, eqb-true, eq-eqb, ne_eqb, lt-ltb}
use Rattle.weave.specs.Rows.{written, long, below}
use Rattle.weave.specs.Cloth.{Draft, among, lifts, treadle_of}
use Rattle.weave.proofs.Cloth.{used_at, used_below}
use Rattle.weave.proofs.Counts.{count, count_fewer, count_more, count_same}
use Rattle.weave.proofs.Differ.{same_test}
use Rattle.weave.proofs.Reach.{reached_self, reached_on, reached_least}
use Rattle.weave.proofs.Layers.{needs, is_used, needs_why, needs_treadle, used_shaft, used_treadle, shaft_needs_parts}
use Rattle.lent.specs.Bits.{bit}
use Rattle.sets.proofs.Members.{bit_none}
use Rattle.layering.specs.Needs.{needed, how_many}
use Rattle.layering.specs.Layers.{LeftDown, Lacks, OverAll, Topmost}
use Rattle.layering.proofs.Choice.{used_inside, over_all}

count_none : (f : ℕ → Bool) (n : ℕ) → ((i : ℕ) → i < n → f i ≡ false) → count f n ≡ 0
unfolding count
count_none f zero none = refl
count_none f (suc n) none = let rest = count_none f n (λ i l. none i (omega arith)) in rw (none n (omega arith)) (omega arith)

-- one number is one
count_one : (n x : ℕ) → x < n → count (λ j. eqb j x) n ≡ 1
unfolding count
count_one zero x h = absurd (omega arith)
count_one (suc n) x h =
    elim (cases_eq n x) [
      | inl e ↦
          let rest = count_none (λ j. eqb j x) n (λ i l. ne_eqb i x (λ q. omega arith)) in
          rw (eq-eqb n x e) (omega arith)
      | inr e ↦ let rest = count_one n x (omega arith) in rw (ne_eqb n x e) (omega arith)
    ]

module _ (d : Draft) (bc : below 64 d.threading ≡ true) (br : below 64 d.treadling ≡ true) where
  many_some : (y : ℕ) → y < 128 → 1 ≤ how_many d y
  many_some y h =
      let one = count_one 128 y h in
      let more = count_fewer (λ j. eqb j y) (needed d y) 128 (λ j l e. rw (eqb-true j y e) (reached_self (needs d 64) 128 y)) in
      omega arith

  -- a shaft that some treadle leaves down needs that
  many_more : (s : ℕ) → among s (written d.threading) ≡ true → LeftDown d s → 1 < how_many d s
  many_more s us w =
      let small = used_below 64 d.threading s bc us in
      let here = used_below 64 d.treadling w.0 br w.1 in
      let need = needs_treadle d 64 s w.0 small ∙ and_from _ (not (lifts d.tied w.0 s)) (and_from (among s (written d.threading)) _ us w.1) (not_from_false (lifts d.tied w.0 s) w.2) in
      let one = count_one 128 s (omega arith) in
      let more = count_more (λ j. eqb j s) (needed d s) 128 (λ j l e. rw (eqb-true j s e) (reached_self (needs d 64) 128 s)) (64 + w.0) (omega arith) (ne_eqb (64 + w.0) s (λ e. omega arith))
      (reached_on (needs d 64) 128 s s (64 + w.0) (omega arith) (omega arith) (reached_self (needs d 64) 128 s) need) in
      omega arith

  module _ (hc : 0 < long d.threading) (hr : 0 < long d.treadling) (s : ℕ) (us : among s (written d.threading) ≡ true)
      (lifted : (t : ℕ) → among t (written d.treadling) ≡ true → lifts d.tied t s ≡ true) where
    small : s < 64
    small = used_below 64 d.threading s bc us

    used : is_used d 64 s ≡ true
    used = used_shaft d 64 s small ∙ us

    alone : (j : ℕ) → needed d s j ≡ eqb j s
    alone j =
        same_test (needed d s j) (eqb j s)
        (reached_least (needs d 64) 128 s (λ i. eqb i s)
        (λ i k l e a. absurd (none k (rw (eqb-true i s e) at a))) (eq-eqb s s refl) j)
        (λ e. rw (eqb-true j s e) (reached_self (needs d 64) 128 s))
      where
        none : (k : ℕ) → needs d 64 s k ≡ true → ⊥
        none k a =
            elim (needs_why d 64 s k a) [
              | inl w ↦ let p = shaft_needs_parts d s w.0 w.3 in both_ways (lifts d.tied w.0 s) p.2 (lifted w.0 p.1)
              | inr w ↦ let e = w.2 in let h = small in omega arith
            ]

    no_treadle : (t : ℕ) → needed d s (64 + t) ≡ false
    no_treadle t = alone (64 + t) ∙ ne_eqb (64 + t) s (λ e. let h = small in omega arith)

    lacks : Lacks d s
    lacks = (64 + treadle_of d 0, used_treadle d 64 (treadle_of d 0) ∙ used_at d.treadling 0 hr, no_treadle (treadle_of d 0))

    just_one : how_many d s ≡ 1
    just_one = count_same (needed d s) (λ j. eqb j s) 128 (λ j h. alone j) ∙ count_one 128 s (let h = small in omega arith)

    pub floating : (x : ℕ) → ((n : ℕ) → bit x n ≡ eqb n s) → ((r : ℕ) → r < s → among r (written d.threading) ≡ true → LeftDown d r) → OverAll d x 0 × Topmost d x 0
    floating x itself first = (
      over_all d bc br hc hr s used lacks x 0 shafts treadles,
      record {
        of = s;
        used = used;
        shafts = shafts;
        treadles = treadles;
        lacks = lacks;
        fewest = λ y v k. rw just_one (many_some y (inside y v));
        first = λ y h v k. rw just_one (many_more y (sym (used_shaft d 64 y (lower y h)) ∙ v) (first y h (sym (used_shaft d 64 y (lower y h)) ∙ v)));
      },
    )
      where
        lower : (y : ℕ) → y < s → y < 64
        lower y h = let k = small in omega arith

        inside : (y : ℕ) → is_used d 64 y ≡ true → y < 128
        inside = used_inside d bc br

        shafts : (n : ℕ) → bit x n ≡ (needed d s n && ltb n 64)
        shafts n =
            itself n
            ∙ elim (cases_eq n s) [
              | inl e ↦ eq-eqb n s e ∙ sym (and_from (needed d s n) (ltb n 64) (alone n ∙ eq-eqb n s e) (lt-ltb n 64 (let h = small in omega arith)))
              | inr e ↦ ne_eqb n s e ∙ sym (and_left (needed d s n) (ltb n 64) (alone n ∙ ne_eqb n s e))
            ]

        treadles : (t : ℕ) → bit 0 t ≡ needed d s (64 + t)
        treadles t = bit_none t ∙ sym (no_treadle t)
