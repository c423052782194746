-- Alike by words: shafts by going over the used treadles, treadles by comparing what they lift of the used shafts.
use Rattle.std.proofs.Common.{◌≡◌, ℕ, ◌+◌, ◌<◌, Bool, true, false, not, ◌&&◌, ◌||◌, eqb, leb, ◌⊎◌, List, length, get_or, sym, refl, ap, ◌∙◌, inl, inr, add-one, arith}
use mathlib.Core.Bool.{and-true}
use lib.Bits.{bit_and}
use Rattle.std.proofs.lemmas.Bool.{cases_Bool, cases_order, and_left, and_right, or_right, or_from, eqb-true, eq-eqb, ne_eqb, le-leb, lt-leb, not-true, not-false, not_from_true, not_from_false}
use Rattle.weave.specs.Rows.{pick}
use Rattle.weave.specs.Cloth.{among}
use Rattle.weave.proofs.Cloth.{among_at, among_where}
use Rattle.weave.proofs.Counts.{any, any_none, none_any}
use Rattle.weave.proofs.Differ.{same_test, alike, alike_at, alike_all}
use Rattle.lent.specs.Bits.{bit}
use Rattle.sets.proofs.Members.{bit-bit_and, same_set}

-- both or neither
abbrev pub same : Bool → Bool → Bool
same a b = pick a b (not b)

same_eq : (a b : Bool) → same a b ≡ true → a ≡ b
same_eq true b h = sym h
same_eq false b h = sym (not-true b h)

eq_same : (a b : Bool) → a ≡ b → same a b ≡ true
eq_same true b h = sym h
eq_same false b h = not_from_false b (sym h)

-- a and b differ at some number of the set below m
abbrev pub differ : (ℕ → Bool) → (ℕ → Bool) → (ℕ → Bool) → ℕ → Bool
differ set a b m = any (λ k. set k && not (same (a k) (b k))) m

-- what agrees with them up to some number, and at the next, if that is in the set
module _ (set a b : ℕ → Bool) (p : Bool) where
  pub agree_none : (p && not (differ set a b 0)) ≡ p
  unfolding any
  agree_none = and-true p

  differ_more : (t : ℕ) → differ set a b (t + 1) ≡ ((set t && not (same (a t) (b t))) || differ set a b t)
  unfolding any
  differ_more t = rw (add-one t)

  pub agree_taken : (t : ℕ) → set t ≡ true → ((p && not (differ set a b t)) && same (a t) (b t)) ≡ (p && not (differ set a b (t + 1)))
  agree_taken t e = rw (differ_more t, e) (go p (same (a t) (b t)) (differ set a b t))
    where
      go : (p k m : Bool) → ((p && not m) && k) ≡ (p && not (not k || m))
      go true true true = refl
      go true true false = refl
      go true false true = refl
      go true false false = refl
      go false k m = refl

  pub agree_passed : (t : ℕ) → set t ≡ false → (p && not (differ set a b t)) ≡ (p && not (differ set a b (t + 1)))
  agree_passed t e = rw (differ_more t, e)

-- what is kept of some where those before t are tested
abbrev pub kept : Bool → (ℕ → Bool) → ℕ → ℕ → Bool
kept p q t n = p && (leb t n || q n)

module _ (p : Bool) (q : ℕ → Bool) where
  pub kept_none : (n : ℕ) → kept p q 0 n ≡ p
  kept_none n = rw (le-leb 0 n (omega arith)) (and-true p)

  pub kept_all : (t n : ℕ) → n < t → kept p q t n ≡ (p && q n)
  kept_all t n h = rw (lt-leb t n h)

  before : (t n : ℕ) → (n < t) ⊎ (t < n) → leb t n ≡ leb (t + 1) n
  before t n (inl h) = lt-leb t n h ∙ sym (lt-leb (t + 1) n (omega arith))
  before t n (inr h) = le-leb t n (omega arith) ∙ sym (le-leb (t + 1) n (omega arith))

  pub kept_on : (t n : ℕ) → q t ≡ true → kept p q t n ≡ kept p q (t + 1) n
  kept_on t n e =
      elim (cases_order n t) [
        | inl k ↦ let e' : q n ≡ true = rw k e in ap (λ (b : Bool). p && b) (or_right (leb t n) (q n) e' ∙ sym (or_right (leb (t + 1) n) (q n) e'))
        | inr k ↦ ap (λ (b : Bool). p && (b || q n)) (before t n k)
      ]

  pub kept_out : (t n : ℕ) → q t ≡ false → (kept p q t n && not (eqb n t)) ≡ kept p q (t + 1) n
  kept_out t n e =
      elim (cases_order n t) [
        | inl k ↦
            let e' : q n ≡ false = rw k e in
            and_right (kept p q t n) _ (not_from_true (eqb n t) (eq-eqb n t k))
            ∙ sym (and_right p _ (or_from (leb (t + 1) n) (q n) (lt-leb (t + 1) n (omega arith)) e'))
        | inr k ↦
            ap (λ (b : Bool). kept p q t n && b) (not_from_false (eqb n t) (ne_eqb n t (apart k)))
            ∙ and-true (kept p q t n) ∙ ap (λ (b : Bool). p && (b || q n)) (before t n k)
      ]
    where
      apart : (n < t) ⊎ (t < n) → n ≡ t → ⊥
      apart (inl h) k = omega arith
      apart (inr h) k = omega arith

module _ (over : ℕ → ℕ → Bool) (us : List ℕ) (m : ℕ) (few : (i : ℕ) → i < length us → get_or us i 0 < m) where
  -- those that differ at no used number are alike
  pub differ_alike : (set a b : ℕ → Bool) (x y : ℕ) → ((k : ℕ) → set k ≡ among k us) → ((k : ℕ) → k < m → a k ≡ over k x) → ((k : ℕ) → k < m → b k ≡ over k y)
      → not (differ set a b m) ≡ alike over us x y
  differ_alike set a b x y used at_x at_y =
      same_test (not (differ set a b m)) (alike over us x y)
      (λ e.
      alike_all over us x y
      (λ i h.
      let k : ℕ = get_or us i 0 in
      let none = any_none (λ j. set j && not (same (a j) (b j))) m (not-true (differ set a b m) e) k (few i h) in
      let s : not (same (a k) (b k)) ≡ false = (rw (used k ∙ among_at us i h) at none) in
      sym (at_x k (few i h)) ∙ same_eq (a k) (b k) (not-false (same (a k) (b k)) s) ∙ at_y k (few i h)))
      (λ e.
      not_from_false (differ set a b m)
      (none_any (λ j. set j && not (same (a j) (b j))) m
      (λ k h.
      elim (cases_Bool (set k)) [
        | inl u ↦
            let w = among_where k us (sym (used k) ∙ u) in
            let o : over k x ≡ over k y = (rw (← w.2) at (alike_at over us x y e w.0 w.1)) in
            and_right (set k) _ (not_from_true (same (a k) (b k)) (eq_same (a k) (b k) (at_x k h ∙ o ∙ sym (at_y k h))))
        | inr u ↦ and_left (set k) _ u
      ])))

-- sets with the same members among those of another
module _ (over : ℕ → ℕ → Bool) (xs : List ℕ) (few : (i : ℕ) → i < length xs → get_or xs i 0 < 64) where
  pub common_alike : (m a b x y : ℕ) → ((n : ℕ) → bit m n ≡ among n xs) → ((n : ℕ) → n < 64 → bit a n ≡ over n x) → ((n : ℕ) → n < 64 → bit b n ≡ over n y)
      → eqb (bit_and a m) (bit_and b m) ≡ alike over xs x y
  common_alike m a b x y used at_x at_y =
      same_test (eqb (bit_and a m) (bit_and b m)) (alike over xs x y)
      (λ e.
      alike_all over xs x y
      (λ i h.
      let n : ℕ = get_or xs i 0 in
      let u : bit m n ≡ true = used n ∙ among_at xs i h in
      let w : (bit a n && bit m n) ≡ (bit b n && bit m n) = sym (bit-bit_and a m n) ∙ ap (λ (z : ℕ). bit z n) (eqb-true (bit_and a m) (bit_and b m) e) ∙ bit-bit_and b m n in
      sym (at_x n (few i h)) ∙ (sym (and-true (bit a n)) ∙ (rw u at w) ∙ and-true (bit b n)) ∙ at_y n (few i h)))
      (λ e.
      eq-eqb (bit_and a m) (bit_and b m)
      (same_set (bit_and a m) (bit_and b m)
      (λ n.
      bit-bit_and a m n
      ∙ elim (cases_Bool (bit m n)) [
        | inl u ↦
            let w = among_where n xs (sym (used n) ∙ u) in
            let h : n < 64 = rw w.2 (few w.0 w.1) in
            let o : over n x ≡ over n y = rw (← w.2) at (alike_at over xs x y e w.0 w.1) in
            ap (λ (t : Bool). t && bit m n) (at_x n h ∙ o ∙ sym (at_y n h))
        | inr u ↦ and_right (bit a n) (bit m n) u ∙ sym (and_right (bit b n) (bit m n) u)
      ]
      ∙ sym (bit-bit_and b m n))))
