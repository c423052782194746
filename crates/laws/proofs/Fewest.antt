-- How few shafts and treadles weave a cloth: as many as there are ends, and picks, that differ. Whoever weaves it uses no fewer, since ends on one shaft are alike; and with one shaft for all that
-- are alike, the first of them, it is woven. Assumes nothing.
use Rattle.std.proofs.Common.{◌≡◌, ℕ, suc, ◌%◌, ◌<◌, ◌≤◌, Bool, true, false, eqb, ltb, List, [], ◌∷◌, map, length, get_or, sym, refl, ap, ◌∙◌, inl, inr, mod-lt, le_antisymm, arith}
use Rattle.std.specs.List.{range_with_len}
use Rattle.std.proofs.lemmas.List.FromFn.{length-map-range_with_len, get_or-map-range_with_len}
use Rattle.std.proofs.lemmas.List.{length-map, get_or-map}
use Rattle.std.proofs.lemmas.Bool.{cases_Bool, or_right, and_from, eqb-true, eq-eqb, lt-ltb, false≢true}
use Rattle.weave.specs.Rows.{pick, Row, one, then, times, written, long, again, below}
use Rattle.weave.specs.Cloth.{Draft, lifts, shaft_of, treadle_of, among, some_same, different, shafts_needed, treadles_needed}
use Rattle.weave.specs.Promise.{used, SameCloth, FewestShafts}
use Rattle.weave.proofs.Rows.{length_written, written_below}
use Rattle.weave.proofs.Cloth.{shaft_below, treadle_below, among_at, among_where, used_at, cell_at}
use Rattle.weave.proofs.Counts.{count, count_fewer}
use Rattle.weave.proofs.Differ.{Kinds, kinds_same, some_same_at, different_most, different_numbers, used_count, alike, alike_at, alike_all, alike_kinds, shafts_alike, treadles_alike}

-- no fewer kinds than numbers are used: where the number z of each tells apart at least what f does, and is one of a row's
no_more_kinds : (f : ℕ → ℕ → Bool) (xs : List ℕ) (z : ℕ → ℕ) (r : Row) (n : ℕ)
    → ((i j : ℕ) → i < length xs → j < length xs → z i ≡ z j → f (get_or xs i 0) (get_or xs j 0) ≡ true)
    → ((i : ℕ) → among (z i) (written r) ≡ true)
    → ((i : ℕ) → z i < n)
    → different f xs ≤ used n r
no_more_kinds f xs z r n tells inside small =
    let zs : List ℕ = map z (range_with_len 0 (length xs)) in
    let len : length zs ≡ length xs = length-map-range_with_len z 0 (length xs) in
    let at : (i : ℕ) → i < length xs → get_or zs i 0 ≡ z i = λ i h. get_or-map-range_with_len z 0 (length xs) i i 0 h (omega arith) in
    let fewer : different f xs ≤ different eqb zs =
    different_most f eqb xs zs (sym len) (λ i j p q e. tells i j p q (sym (at i p) ∙ (eqb-true (get_or zs i 0) (get_or zs j 0) e ∙ at j q))) in
    let same : different eqb zs ≡ count (λ k. among k zs) n = different_numbers n zs (λ i h. rw (at i (rw len at h)) (small i)) in
    let most : count (λ k. among k zs) n ≤ count (λ k. among k (written r)) n =
    count_fewer (λ k. among k zs) (λ k. among k (written r)) n (λ k l e. let w = among_where k zs e in rw (w.2 ∙ at w.0 (rw len at w.1)) (inside w.0)) in
    omega (arith, used_count n r)

-- the first of a list that is of one kind with x
first_like : (ℕ → ℕ → Bool) → ℕ → List ℕ → ℕ
first_like f x [] = x
first_like f x (y ∷ ys) = pick (f x y) y (first_like f x ys)

like_here : (f : ℕ → ℕ → Bool) (x y : ℕ) (ys : List ℕ) → f x y ≡ true → first_like f x (y ∷ ys) ≡ y
unfolding first_like
like_here f x y ys h = rw h

like_later : (f : ℕ → ℕ → Bool) (x y : ℕ) (ys : List ℕ) → f x y ≡ false → first_like f x (y ∷ ys) ≡ first_like f x ys
unfolding first_like
like_later f x y ys h = rw h

some_later : (f : ℕ → ℕ → Bool) (x y : ℕ) (ys : List ℕ) → f x y ≡ false → some_same f x (y ∷ ys) ≡ true → some_same f x ys ≡ true
unfolding some_same
some_later f x y ys h e = rw h at e

among_later : (x y : ℕ) (ys : List ℕ) → among x ys ≡ true → among x (y ∷ ys) ≡ true
unfolding among
among_later x y ys h = or_right (eqb x y) (among x ys) h

like_found : (f : ℕ → ℕ → Bool) (x : ℕ) (xs : List ℕ) → some_same f x xs ≡ true → (f x (first_like f x xs) ≡ true) × (among (first_like f x xs) xs ≡ true)
like_found f x [] e = absurd (false≢true (unfold some_same in e))
like_found f x (y ∷ ys) e =
    elim (cases_Bool (f x y)) [
      | inl h ↦ rw (like_here f x y ys h) (h, among_at (y ∷ ys) 0 (omega arith))
      | inr h ↦
          let w = like_found f x ys (some_later f x y ys h e) in
          rw (like_later f x y ys h) (w.0, among_later (first_like f x ys) y ys w.1)
    ]

like_same : (f : ℕ → ℕ → Bool) (x y : ℕ) (xs : List ℕ) → ((a : ℕ) → f x a ≡ f y a) → some_same f x xs ≡ true → first_like f x xs ≡ first_like f y xs
like_same f x y [] h e = absurd (false≢true (unfold some_same in e))
like_same f x y (a ∷ zs) h e =
    elim (cases_Bool (f x a)) [
      | inl k ↦ like_here f x a zs k ∙ sym (like_here f y a zs (sym (h a) ∙ k))
      | inr k ↦ like_later f x a zs k ∙ (like_same f x y zs h (some_later f x a zs k e) ∙ sym (like_later f y a zs (sym (h a) ∙ k)))
    ]

-- numbers one after the other, as a row
row_of : List ℕ → Row
row_of [] = times 0 (one 0)
row_of (x ∷ xs) = then (one x) (row_of xs)

written_row : (xs : List ℕ) → written (row_of xs) ≡ xs
unfolding row_of written again
written_row [] = refl
written_row (x ∷ xs) = ap {B = List ℕ} (λ ys. x ∷ ys) (written_row xs)

long_row : (xs : List ℕ) → long (row_of xs) ≡ length xs
long_row xs = sym (length_written (row_of xs)) ∙ ap length (written_row xs)

row_below : (m : ℕ) (xs : List ℕ) → 0 < m → ((i : ℕ) → i < length xs → get_or xs i 0 < m) → below m (row_of xs) ≡ true
unfolding row_of below
row_below m [] h all = lt-ltb 0 m h
row_below m (x ∷ xs) h all = and_from (ltb x m) (below m (row_of xs)) (lt-ltb x m (all 0 (omega arith))) (row_below m xs h (λ i k. all (suc i) (omega arith)))

-- a row with one number for all of a kind
module _ (f : ℕ → ℕ → Bool) (kinds : Kinds f) (r : Row) where
  abbrev xs : List ℕ
  xs = written r

  firsts : List ℕ
  firsts = map (λ x. first_like f x xs) xs

  length_firsts : length firsts ≡ length xs
  unfolding firsts
  length_firsts = length-map xs (λ x. first_like f x xs)

  firsts_at : (i : ℕ) → i < length xs → get_or firsts i 0 ≡ first_like f (get_or xs i 0) xs
  unfolding firsts
  firsts_at i h = get_or-map (λ x. first_like f x xs) xs i 0 0 h

  found : (i : ℕ) → i < length xs → some_same f (get_or xs i 0) xs ≡ true
  found i h = some_same_at f (get_or xs i 0) xs i h (kinds.self (get_or xs i 0))

  like_it : (i : ℕ) → i < length xs → f (get_or xs i 0) (first_like f (get_or xs i 0) xs) ≡ true
  like_it i h = (like_found f (get_or xs i 0) xs (found i h)).0

  like_where : (i : ℕ) → i < length xs → (j : ℕ) × (j < length xs) × (first_like f (get_or xs i 0) xs ≡ get_or xs j 0)
  like_where i h = among_where (first_like f (get_or xs i 0) xs) xs (like_found f (get_or xs i 0) xs (found i h)).1

  firsts_different : different eqb firsts ≡ different f xs
  firsts_different =
      le_antisymm
      (different_most eqb f firsts xs length_firsts
      (λ i j p q e.
      let p' : i < length xs = rw length_firsts at p in
      let q' : j < length xs = rw length_firsts at q in
      eq-eqb (get_or firsts i 0) (get_or firsts j 0)
      (firsts_at i p' ∙ (like_same f (get_or xs i 0) (get_or xs j 0) xs (λ a. kinds_same f kinds (get_or xs i 0) (get_or xs j 0) a e) (found i p') ∙ sym (firsts_at j q')))))
      (different_most f eqb xs firsts (sym length_firsts)
      (λ i j p q e.
      let same : first_like f (get_or xs i 0) xs ≡ first_like f (get_or xs j 0) xs =
      sym (firsts_at i p) ∙ (eqb-true (get_or firsts i 0) (get_or firsts j 0) e ∙ firsts_at j q) in
      kinds.on (get_or xs i 0) (first_like f (get_or xs i 0) xs) (get_or xs j 0) (like_it i p)
      (rw same (kinds.back (get_or xs j 0) (first_like f (get_or xs j 0) xs) (like_it j q)))))

  firsts_row : Row
  firsts_row = row_of firsts

  long_firsts : long firsts_row ≡ long r
  unfolding firsts_row
  long_firsts = long_row firsts ∙ (length_firsts ∙ length_written r)

  -- its threads, and how many numbers it uses
  firsts_thread : 0 < long r → (i : ℕ) → get_or (written firsts_row) (i % long firsts_row) 0 ≡ first_like f (get_or xs (i % long r) 0) xs
  unfolding firsts_row
  firsts_thread h i = rw (written_row firsts, long_firsts) (firsts_at (i % long r) (rw (length_written r) (mod-lt i h)))

  firsts_used : 0 < long r → (m : ℕ) → below m r ≡ true → (used m firsts_row ≡ different f xs) × (below m firsts_row ≡ true)
  unfolding firsts_row
  firsts_used h m b =
      let small : (i : ℕ) → i < length firsts → get_or firsts i 0 < m =
      λ i k.
      let p : i < length xs = rw length_firsts at k in
      let w = like_where i p in
      rw (firsts_at i p ∙ w.2) (written_below m r w.0 b (rw (length_written r) at w.1)) in
      let first = written_below m r 0 b h in (
        used_count m (row_of firsts) ∙ (ap (λ (ys : List ℕ). count (λ k. among k ys) m) (written_row firsts) ∙ (sym (different_numbers m firsts small) ∙ firsts_different)),
        row_below m firsts (omega arith) small,
      )

module _ (d : Draft) (hc : 0 < long d.threading) (hr : 0 < long d.treadling) where
  -- shafts as treadles lift them, and treadles as they lift shafts
  abbrev shafts : ℕ → ℕ → Bool
  shafts = alike (λ t s. lifts d.tied t s) (written d.treadling)

  abbrev treadles : ℕ → ℕ → Bool
  treadles = alike (λ s t. lifts d.tied t s) (written d.threading)

  shaft_kinds : Kinds shafts
  shaft_kinds = alike_kinds (λ t s. lifts d.tied t s) (written d.treadling)

  treadle_kinds : Kinds treadles
  treadle_kinds = alike_kinds (λ s t. lifts d.tied t s) (written d.threading)

  no_fewer : (e : Draft) (n : ℕ) → below n e.threading ≡ true → below n e.treadling ≡ true → SameCloth d e
      → (shafts_needed d ≤ used n e.threading) × (treadles_needed d ≤ used n e.treadling)
  no_fewer e n bc br same = (
    rw (shafts_alike d)
        (no_more_kinds shafts (written d.threading) (λ c. shaft_of e c) e.threading n
        (λ i j p q eq.
        alike_all (λ t s. lifts d.tied t s) (written d.treadling) (get_or (written d.threading) i 0) (get_or (written d.threading) j 0)
        (λ k h. cell_at d k i h p ∙ (same.2 k i ∙ (ap (λ s. lifts e.tied (treadle_of e k) s) eq ∙ (sym (same.2 k j) ∙ sym (cell_at d k j h q))))))
        (λ c. used_at e.threading c same.0)
        (λ c. shaft_below n e c bc same.0)),
    rw (treadles_alike d)
        (no_more_kinds treadles (written d.treadling) (λ r. treadle_of e r) e.treadling n
        (λ i j p q eq.
        alike_all (λ s t. lifts d.tied t s) (written d.threading) (get_or (written d.treadling) i 0) (get_or (written d.treadling) j 0)
        (λ k h. cell_at d i k p h ∙ (same.2 i k ∙ (ap (λ t. lifts e.tied t (shaft_of e k)) eq ∙ (sym (same.2 j k) ∙ sym (cell_at d j k q h))))))
        (λ r. used_at e.treadling r same.1)
        (λ r. treadle_below n e r br same.1)),
  )

  -- one shaft for all ends that are alike, and one treadle for all such picks
  abbrev least : Draft
  least = record { threading = firsts_row shafts shaft_kinds d.threading; tied = d.tied; treadling = firsts_row treadles treadle_kinds d.treadling }

  least_same : SameCloth d least
  least_same = (
    rw (long_firsts shafts shaft_kinds d.threading) hc,
    rw (long_firsts treadles treadle_kinds d.treadling) hr,
    λ r c.
        let at_c : c % long d.threading < length (written d.threading) = rw (length_written d.threading) (mod-lt c hc) in
        let at_r : r % long d.treadling < length (written d.treadling) = rw (length_written d.treadling) (mod-lt r hr) in
        let w = like_where treadles treadle_kinds d.treadling (r % long d.treadling) at_r in
        let one_way =
        alike_at (λ s t. lifts d.tied t s) (written d.threading) (treadle_of d r) (first_like treadles (treadle_of d r) (written d.treadling))
        (like_it treadles treadle_kinds d.treadling (r % long d.treadling) at_r) (c % long d.threading) at_c in
        let other =
        alike_at (λ t s. lifts d.tied t s) (written d.treadling) (shaft_of d c) (first_like shafts (shaft_of d c) (written d.threading))
        (like_it shafts shaft_kinds d.threading (c % long d.threading) at_c) w.0 w.1 in
        rw (firsts_thread shafts shaft_kinds d.threading hc c, firsts_thread treadles treadle_kinds d.treadling hr r) (one_way ∙ rw w.2 other),
  )

pub fewest_shafts : FewestShafts
unfolding FewestShafts
fewest_shafts d m bc br hc hr =
    let s = firsts_used (shafts d hc hr) (shaft_kinds d hc hr) d.threading hc m bc in
    let t = firsts_used (treadles d hc hr) (treadle_kinds d hc hr) d.treadling hr m br in
    (no_fewer d hc hr, (least d hc hr, least_same d hc hr, s.0 ∙ sym (shafts_alike d), t.0 ∙ sym (treadles_alike d), s.1, t.1))
