-- What is reached along arrows, by way of one after another: when each has been gone by way of, all is found. Assumes nothing.
use Rattle.std.proofs.Common.{◌≡◌, ℕ, suc, ◌-◌, ◌<◌, ◌≤◌, Bool, true, false, ◌&&◌, ◌||◌, sym, subst, inl, inr, arith}
use mathlib.Core.Path.{fun_ext}
use Rattle.std.proofs.lemmas.Bool.{cases_eq, and_parts, and_from, or_cases, or_left, or_right, both_ways}
use Rattle.weave.proofs.Reach.{reached, reached_self, reached_on, reached_kept, reached_least}
use Rattle.weave.proofs.Differ.{same_test}

-- r has what is reached along arrows by way of those from k on, and nothing that isn't reached; all arrows lead to ones that are there, below n
pub record Ways (there : ℕ → Bool) (arrow : ℕ → ℕ → Bool) (n k : ℕ) (r : ℕ → ℕ → Bool) : Type 0 where
  pub inside : (j : ℕ) → there j ≡ true → j < n
  pub leads : (i j : ℕ) → arrow i j ≡ true → there j ≡ true
  pub to_there : (i j : ℕ) → r i j ≡ true → there j ≡ true
  pub at_once : (i j : ℕ) → arrow i j ≡ true → r i j ≡ true
  pub by_way : (i w j : ℕ) → k ≤ w → r i w ≡ true → r w j ≡ true → r i j ≡ true
  pub only : (i j : ℕ) → i < n → r i j ≡ true → reached arrow n i j ≡ true

module _ (there : ℕ → Bool) (arrow : ℕ → ℕ → Bool) (n : ℕ) where
  pub ways_none : ((j : ℕ) → there j ≡ true → j < n) → ((i j : ℕ) → arrow i j ≡ true → there j ≡ true) → Ways there arrow n n arrow
  ways_none inside leads =
      record {
        inside = inside;
        leads = leads;
        to_there = leads;
        at_once = λ i j e. e;
        by_way = λ i w j h e f. absurd (omega (arith, inside w (leads i w e)));
        only = λ i j h e. reached_on arrow n i i j h (inside j (leads i j e)) (reached_self arrow n i) e;
      }

  -- of one that isn't there nothing comes
  pub ways_passed : (w : ℕ) (r : ℕ → ℕ → Bool) → Ways there arrow n (suc w) r → there w ≡ false → Ways there arrow n w r
  ways_passed w r ways gone =
      record {
        inside = ways.inside;
        leads = ways.leads;
        to_there = ways.to_there;
        at_once = ways.at_once;
        by_way = λ i v j h e f.
            elim (cases_eq v w) [
              | inl q ↦ absurd (both_ways (there w) gone (rw q at (ways.to_there i v e)))
              | inr q ↦ ways.by_way i v j (omega arith) e f
            ];
        only = ways.only;
      }

  pub ways_more : (w : ℕ) (r : ℕ → ℕ → Bool) → w < n → Ways there arrow n (suc w) r → Ways there arrow n w (λ i j. r i j || (r i w && r w j))
  ways_more w r lt ways =
      record {
        inside = ways.inside;
        leads = ways.leads;
        to_there = λ i j e. elim (or_cases (r i j) (r i w && r w j) e) [ inl p ↦ ways.to_there i j p | inr p ↦ ways.to_there w j (and_parts (r i w) (r w j) p).1 ];
        at_once = λ i j e. left i j (ways.at_once i j e);
        by_way = λ i v j h e f. elim (cases_eq v w) [ inl q ↦ here i j (rw q at e) (rw q at f) | inr q ↦ there_too i v j (omega arith) e f ];
        only = λ i j h e.
            elim (or_cases (r i j) (r i w && r w j) e) [
              | inl p ↦ ways.only i j h p
              | inr p ↦
                  let b = and_parts (r i w) (r w j) p in
                  reached_kept arrow n w (λ l. reached arrow n i l ≡ true) (ways.only i w h b.0)
                  (λ a l k q s. reached_on arrow n i a l k (ways.inside l (ways.leads a l s)) q s) j (ways.only w j lt b.1)
            ];
      }
    where
      left : (i j : ℕ) → r i j ≡ true → (r i j || (r i w && r w j)) ≡ true
      left i j e = or_left (r i j) (r i w && r w j) e

      right : (i j : ℕ) → r i w ≡ true → r w j ≡ true → (r i j || (r i w && r w j)) ≡ true
      right i j e f = or_right (r i j) (r i w && r w j) (and_from (r i w) (r w j) e f)

      to_way : (i : ℕ) → (r i w || (r i w && r w w)) ≡ true → r i w ≡ true
      to_way i e = elim (or_cases (r i w) (r i w && r w w) e) [ inl p ↦ p | inr p ↦ (and_parts (r i w) (r w w) p).0 ]

      from_way : (j : ℕ) → (r w j || (r w w && r w j)) ≡ true → r w j ≡ true
      from_way j e = elim (or_cases (r w j) (r w w && r w j) e) [ inl p ↦ p | inr p ↦ (and_parts (r w w) (r w j) p).1 ]

      here : (i j : ℕ) → (r i w || (r i w && r w w)) ≡ true → (r w j || (r w w && r w j)) ≡ true → (r i j || (r i w && r w j)) ≡ true
      here i j e f = right i j (to_way i e) (from_way j f)

      there_too : (i v j : ℕ) → suc w ≤ v → (r i v || (r i w && r w v)) ≡ true → (r v j || (r v w && r w j)) ≡ true → (r i j || (r i w && r w j)) ≡ true
      there_too i v j h e f =
          elim (or_cases (r i v) (r i w && r w v) e) [
            | inl p ↦
                elim (or_cases (r v j) (r v w && r w j) f) [
                  | inl q ↦ left i j (ways.by_way i v j h p q)
                  | inr q ↦ let b = and_parts (r v w) (r w j) q in right i j (ways.by_way i v w h p b.0) b.1
                ]
            | inr p ↦
                let a = and_parts (r i w) (r w v) p in
                elim (or_cases (r v j) (r v w && r w j) f) [
                  | inl q ↦ right i j a.0 (ways.by_way w v j h a.1 q)
                  | inr q ↦ right i j a.0 (and_parts (r v w) (r w j) q).1
                ]
          ]

  -- by way of all: what is reached from one that is with itself
  pub ways_all : (r : ℕ → ℕ → Bool) → Ways there arrow n 0 r → (x : ℕ) → x < n → r x x ≡ true → (j : ℕ) → r x j ≡ reached arrow n x j
  ways_all r ways x lt self j =
      same_test (r x j) (reached arrow n x j) (ways.only x j lt)
      (reached_least arrow n x (r x) (λ i l h e s. ways.by_way x i l (omega arith) e (ways.at_once i l s)) self j)

  -- the same, counted down
  pub ways_joined : (k : ℕ) (r s : ℕ → ℕ → Bool) → 0 < k → k ≤ n → Ways there arrow n k r → ((i j : ℕ) → s i j ≡ (r i j || (r i (k - 1) && r (k - 1) j))) → Ways there arrow n (k - 1) s
  ways_joined k r s pos le ways is =
      let e : k ≡ suc (k - 1) = omega arith in
      subst (Ways there arrow n (k - 1)) (sym (fun_ext (λ i. fun_ext (λ j. is i j))))
      (ways_more (k - 1) r (omega arith) (subst (λ (m : ℕ). Ways there arrow n m r) e ways))

  pub ways_skipped : (k : ℕ) (r : ℕ → ℕ → Bool) → 0 < k → Ways there arrow n k r → there (k - 1) ≡ false → Ways there arrow n (k - 1) r
  ways_skipped k r pos ways gone =
      let e : k ≡ suc (k - 1) = omega arith in
      ways_passed (k - 1) r (subst (λ (m : ℕ). Ways there arrow n m r) e ways) gone
