-- What is found about lists, and about rows by the rows in them.
use Rattle.std.proofs.Common.{◌≡◌, ℕ, zero, suc, ◌+◌, ◌*◌, ◌≤◌, max, Bool, true, false, eqb, ltb, List, [], ◌∷◌, ◌++◌, length, sym, refl, ap, ◌∙◌, ap₂, inl, inr, mul-le-mul_left, arith}
use Rattle.std.proofs.lemmas.List.{length-append}
use Rattle.std.proofs.lemmas.Bool.{cases_Bool, and_parts, ltb-true, ne_eqb}
use Rattle.weave.specs.Rows.{pick, Row, one, then, times, turned, again, reversed, written, long, some_each}
use Rattle.weave.proofs.Rows.{length_again, length_reversed, length_written, reversed_twice}
use Rattle.weave.proofs.Runs.{front, back, longest, all, longest_round, all_one, front_one, back_one, longest_one, all_append, front_append, back_append, longest_append, all_reversed, longest_reversed, front_le, back_le, front_all, back_all, longest_all, all_again, front_again, back_again, longest_again, longest_once, round_is}
use Rattle.rows.proofs.Parts.{long_times}
use Rattle.runs.specs.Found.{pieces, runs_of, front_in, back_in, Short, of_one, of_both, of_times, of_turned}
use Rattle.runs.specs.declared.Runs.{Runs}
use Rattle.runs.specs.declared.Runs.TheVariants.{Whole, Broken}

pieces_same : {a b c p q r : ℕ} → a ≡ p → b ≡ q → c ≡ r → pieces a b c ≡ pieces p q r
pieces_same i j k = rw (i, j, k)

abbrev pub round_in : Runs → ℕ
round_in (Whole n) = n
round_in (Broken x) = max x.longest (x.back + x.front)

module _ (f : ℕ → Bool) where
  -- by whether all numbers are in the set
  pub all_runs : (xs : List ℕ) → all f xs ≡ true → runs_of f xs ≡ Whole (length xs)
  all_runs xs e = rw e

  pub other_runs : (xs : List ℕ) → all f xs ≡ false → runs_of f xs ≡ pieces (front f xs) (back f xs) (longest f xs)
  other_runs xs e = rw e

  one_runs : (n : ℕ) → of_one (f n) ≡ runs_of f (n ∷ [])
  one_runs n = elim (cases_Bool (f n)) [
    | inl e ↦ rw e (sym (all_runs (n ∷ []) (all_one f n ∙ e)))
    | inr e ↦ rw e (pieces_same (sym (front_one f n ∙ rw e)) (sym (back_one f n ∙ rw e)) (sym (longest_one f n ∙ rw e)) ∙ sym (other_runs (n ∷ []) (all_one f n ∙ e)))
  ]

  both_runs : (xs ys : List ℕ) → of_both (runs_of f xs) (runs_of f ys) ≡ runs_of f (xs ++ ys)
  both_runs xs ys =
      let a = all_append f xs ys in
      let g = front_append f xs ys in
      let b = back_append f xs ys in
      let l = longest_append f xs ys in
      elim (cases_Bool (all f xs)) [
        | inl e ↦
            elim (cases_Bool (all f ys)) [
              | inl h ↦ rw (all_runs xs e, all_runs ys h) (ap Whole (sym (length-append xs ys)) ∙ sym (all_runs (xs ++ ys) (a ∙ rw (e, h))))
              | inr h ↦
                  rw (all_runs xs e, other_runs ys h)
                  (pieces_same (sym (g ∙ rw e)) (sym (b ∙ rw h)) (sym (l ∙ rw (longest_all f xs e, back_all f xs e) (omega arith))) ∙ sym (other_runs (xs ++ ys) (a ∙ rw (e, h))))
            ]
        | inr e ↦
            elim (cases_Bool (all f ys)) [
              | inl h ↦
                  rw (other_runs xs e, all_runs ys h)
                  (pieces_same (sym (g ∙ rw e)) (sym (b ∙ rw h (omega arith))) (sym (l ∙ rw (longest_all f ys h, front_all f ys h) (omega arith))) ∙ sym (other_runs (xs ++ ys) (a ∙ rw e)))
              | inr h ↦
                  rw (other_runs xs e, other_runs ys h)
                  (pieces_same (sym (g ∙ rw e)) (sym (b ∙ rw h)) (sym l) ∙ sym (other_runs (xs ++ ys) (a ∙ rw e)))
            ]
      ]

  pub turned_runs : (xs : List ℕ) → of_turned (runs_of f xs) ≡ runs_of f (reversed xs)
  turned_runs xs =
      let a = all_reversed f xs in
      elim (cases_Bool (all f xs)) [
        | inl e ↦ rw (all_runs xs e) (ap Whole (sym (length_reversed xs)) ∙ sym (all_runs (reversed xs) (a ∙ e)))
        | inr e ↦
            rw (other_runs xs e)
            (pieces_same refl (sym (ap (front f) (reversed_twice xs))) (sym (longest_reversed f xs)) ∙ sym (other_runs (reversed xs) (a ∙ e)))
      ]

  times_runs : (n : ℕ) (xs : List ℕ) → of_times (suc n) (runs_of f xs) ≡ runs_of f (again (suc n) xs)
  times_runs n xs =
      let a = all_again f n xs in
      elim (cases_Bool (all f xs)) [
        | inl e ↦ rw (all_runs xs e) (ap Whole (sym (length_again (suc n) xs)) ∙ sym (all_runs (again (suc n) xs) (a ∙ e)))
        | inr e ↦
            rw (other_runs xs e)
            (pieces_same (sym (front_again f n xs e)) (sym (back_again f n xs e)) (sym (seams n e)) ∙ sym (other_runs (again (suc n) xs) (a ∙ e)))
      ]
    where
      seams : (n : ℕ) → all f xs ≡ false → longest f (again (suc n) xs) ≡ pick (eqb (suc n) 1) (longest f xs) (max (longest f xs) (back f xs + front f xs))
      seams zero e = longest_once f xs
      seams (suc n) e = let k : eqb (suc (suc n)) 1 ≡ false = ne_eqb (suc (suc n)) 1 (omega arith) in rw k (longest_again f n xs e)

  -- of rows
  pub one_found : (n : ℕ) (b : Bool) (x : Runs) → b ≡ f n → x ≡ of_one b → x ≡ runs_of f (written (one n))
  unfolding written
  one_found n b x e h = h ∙ ap of_one e ∙ one_runs n

  pub then_found : (p q : Row) (a b x : Runs) → a ≡ runs_of f (written p) → b ≡ runs_of f (written q) → x ≡ of_both a b → x ≡ runs_of f (written (then p q))
  unfolding written
  then_found p q a b x e h k = k ∙ ap₂ of_both e h ∙ both_runs (written p) (written q)

  pub times_found : (n : ℕ) (p : Row) (a x : Runs) → some_each (times n p) ≡ true → a ≡ runs_of f (written p) → x ≡ of_times n a → x ≡ runs_of f (written (times n p))
  unfolding written some_each
  times_found zero p a x s e k = absurd (let h = ltb-true 0 0 (and_parts (ltb 0 0) (some_each p) s).0 in omega arith)
  times_found (suc n) p a x s e k = k ∙ ap (of_times (suc n)) e ∙ times_runs n (written p)

  pub turned_found : (p : Row) (a x : Runs) → a ≡ runs_of f (written p) → x ≡ of_turned a → x ≡ runs_of f (written (turned p))
  unfolding written
  turned_found p a x e k = k ∙ ap of_turned e ∙ turned_runs (written p)

  -- no run is longer than the row
  front_short : (xs : List ℕ) → front_in (runs_of f xs) ≤ length xs
  front_short xs = elim (cases_Bool (all f xs)) [ inl e ↦ rw (all_runs xs e) (omega arith) | inr e ↦ rw (other_runs xs e) (front_le f xs) ]

  back_short : (xs : List ℕ) → back_in (runs_of f xs) ≤ length xs
  back_short xs = elim (cases_Bool (all f xs)) [ inl e ↦ rw (all_runs xs e) (omega arith) | inr e ↦ rw (other_runs xs e) (back_le f xs) ]

  pub row_short : (r : Row) (x : Runs) → long r ≤ 16777216 → x ≡ runs_of f (written r) → Short x
  row_short r x h e =
      let l = length_written r in
      rw e (record { front = omega (arith, front_short (written r)); back = omega (arith, back_short (written r)) })

  pub times_short : (n : ℕ) (p : Row) (x : Runs) → long (times n p) ≤ 16777216 → x ≡ runs_of f (written p) → n * front_in x ≤ 16777216
  times_short n p x h e =
      let l : front_in (runs_of f (written p)) ≤ long p = omega (arith, front_short (written p), length_written p) in
      rw e (omega (arith, long_times n p, mul-le-mul_left n l))

  -- round the end
  pub round_found : (xs : List ℕ) → round_in (runs_of f xs) ≡ longest_round f xs
  round_found xs = elim (cases_Bool (all f xs)) [
    | inl e ↦ rw (all_runs xs e) (sym (round_is f xs ∙ rw e))
    | inr e ↦ rw (other_runs xs e) (sym (round_is f xs ∙ rw e))
  ]
