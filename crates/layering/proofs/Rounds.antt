-- How many rounds find all that is reached: no more than there are to be found. Assumes nothing.
use Rattle.std.proofs.Common.{◌≡◌, ℕ, zero, suc, ◌<◌, ◌≤◌, Bool, true, false, eqb, ◌⊎◌, refl, inl, inr, arith}
use Rattle.std.proofs.lemmas.Bool.{cases_Bool, cases_lt, eqb-true, eq-eqb, false≢true}
use Rattle.weave.proofs.Counts.{count, count_fewer, count_more}
use Rattle.weave.proofs.Reach.{round, rounds, round_has, round_on, rounds_has, rounds_kept, reached, reached_self, reached_on, reached_least}
use Rattle.weave.proofs.Differ.{same_test}

module _ (arrow : ℕ → ℕ → Bool) (n : ℕ) (inside : (i j : ℕ) → arrow i j ≡ true → j < n) (x : ℕ) (here : x < n) where
  -- a set that a round adds nothing to has all that an arrow leads to from it
  stays : (set : ℕ → Bool) → count (round arrow n set) n ≤ count set n → (i j : ℕ) → i < n → set i ≡ true → arrow i j ≡ true → set j ≡ true
  stays set few i j h e a =
      elim (cases_Bool (set j)) [
        | inl t ↦ t
        | inr t ↦ absurd (let more = count_more set (round arrow n set) n (λ k l s. round_has arrow n set k s) j (inside i j a) t (round_on arrow n set i j h e a) in omega arith)
      ]

  abbrev Found : ℕ → Type 0
  Found k = (j : ℕ) → reached arrow n x j ≡ true → rounds arrow n k (λ y. eqb y x) j ≡ true

  -- so each round adds something, or all is found
  found_or_more : (k : ℕ) → Found k ⊎ (k < count (rounds arrow n k (λ y. eqb y x)) n)
  unfolding rounds
  found_or_more zero =
      inr (let some = count_more (λ i. false) (λ y. eqb y x) n (λ i l e. absurd (false≢true e)) x here refl (eq-eqb x x refl) in omega arith)
  found_or_more (suc k) =
      let set : ℕ → Bool = rounds arrow n k (λ y. eqb y x) in
      elim (found_or_more k) [
        | inl all ↦ inl (λ j e. round_has arrow n set j (all j e))
        | inr h ↦
            elim (cases_lt (count set n) (count (round arrow n set) n)) [
              | inl more ↦ inr (omega arith)
              | inr few ↦
                  inl (λ j e. round_has arrow n set j (reached_least arrow n x set (stays set few) (rounds_has arrow n (λ y. eqb y x) k x (eq-eqb x x refl)) j e))
            ]
      ]

  -- as many rounds as there are that can be reached
  pub rounds_enough : (there : ℕ → Bool) → there x ≡ true → ((i j : ℕ) → arrow i j ≡ true → there j ≡ true)
      → (k j : ℕ) → count there n ≤ k → rounds arrow n k (λ y. eqb y x) j ≡ reached arrow n x j
  rounds_enough there tx leads k j h =
      same_test (rounds arrow n k (λ y. eqb y x) j) (reached arrow n x j)
      (rounds_kept arrow n (λ y. eqb y x) (λ l. reached arrow n x l ≡ true) (λ l e. rw (eqb-true l x e) (reached_self arrow n x))
      (λ i l s p a. reached_on arrow n x i l s (inside i l a) p a) k j)
      (elim (found_or_more k) [
        | inl all ↦ all j
        | inr more ↦ absurd (let few = count_fewer (rounds arrow n k (λ y. eqb y x)) there n (λ i l. only i) in omega arith)
      ])
    where
      only : (i : ℕ) → rounds arrow n k (λ y. eqb y x) i ≡ true → there i ≡ true
      only = rounds_kept arrow n (λ y. eqb y x) (λ l. there l ≡ true) (λ l e. rw (eqb-true l x e) tx) (λ i l s p a. leads i l a) k
