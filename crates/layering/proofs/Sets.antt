-- Sets as bits of a number: how many members there are, and that a number without high bits is small. Assumes nothing.
use Rattle.std.proofs.Common.{◌≡◌, ℕ, zero, suc, ◌+◌, ◌*◌, ◌/◌, ◌%◌, ◌^◌, ◌<◌, ◌≤◌, Bool, true, false, ◌&&◌, eqb, ltb, sym, refl, ap, ◌∙◌, inl, inr, mod-lt, one-mul, pow-suc, one-add, arith}
use mathlib.Core.Bool.{and-true}
use lib.Bits.{bit_and}
use lib.Count.{ones, ones_step}
use Rattle.std.proofs.lemmas.Nat.{pow_pos, ones-le, one_shl}
use Rattle.std.proofs.lemmas.Bool.{cases_Bool, cases_eq, cases_lt, and_from, and_left, and_right, eq-eqb, ne_eqb, lt-ltb, both_ways}
use Rattle.weave.specs.Rows.{pick}
use Rattle.weave.proofs.Counts.{count, count_same}
use Rattle.lent.specs.Bits.{bit}
use Rattle.lent.proofs.Bits.{bit_past}
use Rattle.sets.proofs.Members.{bit_none, bit-bit_and, bit_power, bit_low, bit_shr, same_set}

-- the first number apart from the others
count_first : (f : ℕ → Bool) (n : ℕ) → count f (suc n) ≡ pick (f 0) 1 0 + count (λ i. f (suc i)) n
unfolding count
count_first f zero = refl
count_first f (suc n) = let rest = count_first f n in omega arith

digit : (x : ℕ) → pick (bit x 0) 1 0 ≡ x % 2
digit x =
    let e : x / 1 ≡ x = omega arith in
    rw e (elim (cases_lt (x % 2) 1) [ inl h ↦ (let z : x % 2 ≡ 0 = omega arith in rw z) | inr h ↦ (let o : x % 2 ≡ 1 = omega arith in rw o) ])

pub ones_count : (n x : ℕ) → x < 2 ^ n → ones x ≡ count (bit x) n
unfolding count
ones_count zero x h = let few = ones-le 0 x h in omega arith
ones_count (suc n) x h =
    let rest = ones_count n (x / 2) (omega (arith, pow-suc 2 n)) in
    let same = count_same (bit (x / 2)) (λ i. bit x (suc i)) n (λ i l. bit_shr x 1 i ∙ ap (bit x) (one-add i)) in
    omega (arith, ones_step x, count_first (bit x) n, digit x)

pub no_high_bits : (x m : ℕ) → ((n : ℕ) → m ≤ n → bit x n ≡ false) → x < 2 ^ m
no_high_bits x m none =
    let e = same_set x (x % 2 ^ m) (λ n. same n) in
    let l : x % 2 ^ m < 2 ^ m = mod-lt x (pow_pos m) in
    omega arith
  where
    same : (n : ℕ) → bit x n ≡ bit (x % 2 ^ m) n
    same n =
        elim (cases_lt n m) [
          | inl h ↦ sym (and-true (bit x n)) ∙ sym (bit_low x m n ∙ ap (λ (t : Bool). bit x n && t) (lt-ltb n m h))
          | inr h ↦ none n h ∙ sym (bit_low x m n ∙ and_left (bit x n) (ltb n m) (none n h))
        ]

-- the members of a number of n bits are below n
pub bit_inside : (n x j : ℕ) → x < 2 ^ n → bit x j ≡ true → j < n
bit_inside n x j h e = elim (cases_lt j n) [ inl l ↦ l | inr l ↦ absurd (both_ways (bit x j) (bit_past n x j h l) e) ]

-- a member by its mask, as `x & (1 << k)` finds it at w bits
pub unmasked : (w x k : ℕ) → k < w → bit_and x ((1 * 2 ^ k) % 2 ^ w) ≡ 0 → bit x k ≡ false
unmasked w x k h e =
    elim (cases_Bool (bit x k)) [
      | inl t ↦ absurd (both_ways (bit (bit_and x ((1 * 2 ^ k) % 2 ^ w)) k) (ap (λ (y : ℕ). bit y k) e ∙ bit_none k)
          (bit-bit_and x ((1 * 2 ^ k) % 2 ^ w) k ∙ and_from (bit x k) (bit ((1 * 2 ^ k) % 2 ^ w) k) t (bit_mask w k k h ∙ eq-eqb k k refl)))
      | inr f ↦ f
    ]
  where
    bit_mask : (w k n : ℕ) → k < w → bit ((1 * 2 ^ k) % 2 ^ w) n ≡ eqb n k
    bit_mask w k n h = ap (λ (y : ℕ). bit y n) (one_shl k w h ∙ sym (one-mul (2 ^ k))) ∙ bit_power k n

pub masked : (w x k : ℕ) → k < w → (bit_and x ((1 * 2 ^ k) % 2 ^ w) ≡ 0 → ⊥) → bit x k ≡ true
masked w x k h some =
    elim (cases_Bool (bit x k)) [
      | inl t ↦ t
      | inr f ↦ absurd (some (same_set (bit_and x ((1 * 2 ^ k) % 2 ^ w)) 0 (λ n. none n f ∙ sym (bit_none n))))
    ]
  where
    none : (n : ℕ) → bit x k ≡ false → bit (bit_and x ((1 * 2 ^ k) % 2 ^ w)) n ≡ false
    none n f =
        bit-bit_and x ((1 * 2 ^ k) % 2 ^ w) n
        ∙ elim (cases_eq n k) [
          | inl e ↦ and_left (bit x n) (bit ((1 * 2 ^ k) % 2 ^ w) n) (ap (bit x) e ∙ f)
          | inr e ↦ and_right (bit x n) (bit ((1 * 2 ^ k) % 2 ^ w) n) (ap (λ (y : ℕ). bit y n) (one_shl k w h ∙ sym (one-mul (2 ^ k))) ∙ bit_power k n ∙ ne_eqb n k e)
        ]
