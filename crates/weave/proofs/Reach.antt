-- Arrows between the numbers below n, and what is reached along them: in as many rounds as there are numbers. Assumes nothing.
use Rattle.std.proofs.Common.{◌≡◌, ℕ, zero, suc, ◌<◌, ◌≤◌, Bool, true, not, ◌&&◌, ◌||◌, eqb, ◌⊎◌, refl, inl, inr, arith}
use Rattle.std.proofs.lemmas.Bool.{cases_Bool, and_parts, and_from, or_cases, or_left, or_right, not-true, not_from_false, both_ways, eqb-true, eq-eqb}
use Rattle.weave.proofs.Counts.{any, any_at, any_where, find₂, count, count_all, count_more}

-- a set that no arrow leads out of
abbrev pub Closed : (ℕ → ℕ → Bool) → ℕ → (ℕ → Bool) → Type 0
Closed arrow n set = (i j : ℕ) → i < n → j < n → set i ≡ true → arrow i j ≡ true → set j ≡ true

-- a set, and all that an arrow leads to from it
unfoldable pub round : (ℕ → ℕ → Bool) → ℕ → (ℕ → Bool) → ℕ → Bool
round arrow n set j = set j || any (λ i. set i && arrow i j) n

-- so many rounds, one after the other
unfoldable pub rounds : (ℕ → ℕ → Bool) → ℕ → ℕ → (ℕ → Bool) → ℕ → Bool
rounds arrow n zero set = set
rounds arrow n (suc k) set = round arrow n (rounds arrow n k set)

-- what is reached from x, itself too
abbrev pub reached : (ℕ → ℕ → Bool) → ℕ → ℕ → ℕ → Bool
reached arrow n x = rounds arrow n n (λ y. eqb y x)

module _ (arrow : ℕ → ℕ → Bool) (n : ℕ) where
  -- a round keeps what there is, goes along every arrow, and adds nothing else
  pub round_has : (set : ℕ → Bool) (j : ℕ) → set j ≡ true → round arrow n set j ≡ true
  unfolding round
  round_has set j h = or_left (set j) (any (λ i. set i && arrow i j) n) h

  pub round_on : (set : ℕ → Bool) (i j : ℕ) → i < n → set i ≡ true → arrow i j ≡ true → round arrow n set j ≡ true
  unfolding round
  round_on set i j l h a = or_right (set j) (any (λ i. set i && arrow i j) n) (any_at (λ i. set i && arrow i j) n i l (and_from (set i) (arrow i j) h a))

  pub round_why : (set : ℕ → Bool) (j : ℕ) → round arrow n set j ≡ true → (set j ≡ true) ⊎ ((i : ℕ) × (i < n) × (set i ≡ true) × (arrow i j ≡ true))
  unfolding round
  round_why set j h =
      elim (or_cases (set j) (any (λ i. set i && arrow i j) n) h) [
        | inl e ↦ inl e
        | inr e ↦
            let w = any_where (λ i. set i && arrow i j) n e in
            let b = and_parts (set w.0) (arrow w.0 j) w.2 in
            inr (w.0, w.1, b.0, b.1)
      ]

  pub rounds_has : (set : ℕ → Bool) (k j : ℕ) → set j ≡ true → rounds arrow n k set j ≡ true
  unfolding rounds
  rounds_has set zero j h = h
  rounds_has set (suc k) j h = round_has (rounds arrow n k set) j (rounds_has set k j h)

  -- what holds at the start, and goes along every arrow, holds of all that is reached
  pub rounds_kept : (set : ℕ → Bool) (P : ℕ → Type 0) → ((j : ℕ) → set j ≡ true → P j) → ((i j : ℕ) → i < n → P i → arrow i j ≡ true → P j)
      → (k j : ℕ) → rounds arrow n k set j ≡ true → P j
  unfolding rounds
  rounds_kept set P start step zero j h = start j h
  rounds_kept set P start step (suc k) j h =
      elim (round_why (rounds arrow n k set) j h) [
        | inl e ↦ rounds_kept set P start step k j e
        | inr w ↦ step w.0 j w.1 (rounds_kept set P start step k w.0 w.2) w.3
      ]

  round_closed : (set : ℕ → Bool) → Closed arrow n set → Closed arrow n (round arrow n set)
  round_closed set closed i j hi hj e a =
      elim (round_why set i e) [
        | inl t ↦ round_has set j (closed i j hi hj t a)
        | inr w ↦ round_has set j (closed i j hi hj (closed w.0 i w.1 hi w.2 w.3) a)
      ]

  -- a set that is not closed grows in a round
  grows : (set : ℕ → Bool) → Closed arrow n set ⊎ (count set n < count (round arrow n set) n)
  grows set =
      elim (find₂ (λ i j. (set i && arrow i j) && not (set j)) n n) [
        | inl w ↦
            let b = and_parts (set w.0 && arrow w.0 w.1) (not (set w.1)) w.4 in
            let c = and_parts (set w.0) (arrow w.0 w.1) b.0 in
            inr (count_more set (round arrow n set) n (λ i l e. round_has set i e) w.1 w.3 (not-true (set w.1) b.1) (round_on set w.0 w.1 w.2 c.0 c.1))
        | inr none ↦
            inl
            (λ i j hi hj e a.
            elim (cases_Bool (set j)) [
              | inl t ↦ t
              | inr t ↦ absurd (both_ways ((set i && arrow i j) && not (set j)) (none i j hi hj) (and_from (set i && arrow i j) (not (set j)) (and_from (set i) (arrow i j) e a) (not_from_false (set j) t)))
            ])
      ]

  closed_or_grown : (set : ℕ → Bool) (k : ℕ) → Closed arrow n (rounds arrow n k set) ⊎ (k ≤ count (rounds arrow n k set) n)
  unfolding rounds
  closed_or_grown set zero = inr (omega arith)
  closed_or_grown set (suc k) =
      elim (closed_or_grown set k) [
        | inl c ↦ inl (round_closed (rounds arrow n k set) c)
        | inr h ↦
            elim (grows (rounds arrow n k set)) [
              | inl c ↦ inl (round_closed (rounds arrow n k set) c)
              | inr m ↦ inr (omega arith)
            ]
      ]

  -- as many rounds as there are numbers are enough
  pub rounds_closed : (set : ℕ → Bool) → Closed arrow n (rounds arrow n n set)
  rounds_closed set =
      elim (closed_or_grown set n) [
        | inl c ↦ c
        | inr h ↦ λ i j hi hj e a. count_all (rounds arrow n n set) n h j hj
      ]

  pub reached_self : (x : ℕ) → reached arrow n x x ≡ true
  reached_self x = rounds_has (λ y. eqb y x) n x (eq-eqb x x refl)

  pub reached_on : (x i j : ℕ) → i < n → j < n → reached arrow n x i ≡ true → arrow i j ≡ true → reached arrow n x j ≡ true
  reached_on x = rounds_closed (λ y. eqb y x)

  pub reached_kept : (x : ℕ) (P : ℕ → Type 0) → P x → ((i j : ℕ) → i < n → P i → arrow i j ≡ true → P j) → (j : ℕ) → reached arrow n x j ≡ true → P j
  reached_kept x P start step = rounds_kept (λ y. eqb y x) P (λ j e. rw (eqb-true j x e) start) step n

  -- no closed set that has x lacks anything that is reached from it
  pub reached_least : (x : ℕ) (set : ℕ → Bool) → ((i j : ℕ) → i < n → set i ≡ true → arrow i j ≡ true → set j ≡ true) → set x ≡ true → (j : ℕ) → reached arrow n x j ≡ true → set j ≡ true
  reached_least x set closed h = reached_kept x (λ j. set j ≡ true) h closed
