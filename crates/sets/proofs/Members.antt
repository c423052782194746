-- Members of sets that are bits of a number: of what is joined, common, left over or shifted; and sets with the same members.
use Rattle.std.proofs.Common.{◌≡◌, ℕ, zero, suc, ◌+◌, ◌-◌, ◌*◌, ◌/◌, ◌%◌, ◌^◌, ◌<◌, Bool, true, false, not, ◌&&◌, ◌||◌, eqb, ltb, sym, refl, ap, ◌∙◌, ap₂, inl, inr, lt_of_lt_of_le, add-zero, one-mul, pow-suc, one-add, arith, lit<, pow_mono}
use mathlib.Core.Bool.{and-true}
use native.Mathlib.Nat.{zero-div}
use lib.Count.{count_trailing_zeros, under}
use lib.Bits.{bit_and, bit_or, shifted_half, shifted_even}
use Rattle.std.proofs.lemmas.Nat.{shr-shr, shl-shr, one_shl, pow_pos, and_mask, and_shr, and_mod, or_shr, or_mod}
use Rattle.std.proofs.lemmas.Bool.{cases_order, cases_lt, eq-eqb, ne_eqb, lt-ltb, le-ltb, and_left, false≢true, true≢false}
use Rattle.lent.specs.Bits.{bit}
use Rattle.lent.proofs.Bits.{bit_past}

-- the lowest bit, and the others
bit_first : (x : ℕ) → bit x 0 ≡ eqb (x % 2) 1
bit_first x = let e : x / 1 ≡ x = omega arith in ap (λ (y : ℕ). eqb (y % 2) 1) e

bit_later : (x n : ℕ) → bit x (suc n) ≡ bit (x / 2) n
bit_later x n = ap (λ (y : ℕ). eqb (y % 2) 1) (sym (shr-shr x 1 n ∙ ap (λ (k : ℕ). x / 2 ^ k) (one-add n)))

-- no number is in the set without members
pub bit_none : (n : ℕ) → bit 0 n ≡ false
bit_none n = ap (λ (x : ℕ). eqb (x % 2) 1) (zero-div (2 ^ n))

-- those below w that are not in a set
pub bit_others : (w x n : ℕ) → x < 2 ^ w → bit (2 ^ w - 1 - x) n ≡ (ltb n w && not (bit x n))
bit_others zero x n h =
    let e : 1 - 1 - x ≡ 0 = omega arith in
    ap (λ (y : ℕ). bit y n) e ∙ bit_none n ∙ sym (and_left (ltb n 0) (not (bit x n)) (le-ltb n 0 (omega arith)))
bit_others (suc w) x zero h =
    let e : (2 ^ suc w - 1 - x) % 2 ≡ 1 - x % 2 = omega (arith, pow-suc 2 w) in
    bit_first (2 ^ suc w - 1 - x) ∙ ap (λ (y : ℕ). eqb y 1) e ∙ one_less (x % 2) (omega arith)
    ∙ sym (ap₂ (λ (s t : Bool). s && not t) (lt-ltb 0 (suc w) (omega arith)) (bit_first x))
  where
    one_less : (y : ℕ) → y < 2 → eqb (1 - y) 1 ≡ not (eqb y 1)
    one_less zero l = refl
    one_less (suc zero) l = refl
    one_less (suc (suc y)) l = absurd (omega arith)
bit_others (suc w) x (suc n) h =
    let e : (2 ^ suc w - 1 - x) / 2 ≡ 2 ^ w - 1 - x / 2 = omega (arith, pow-suc 2 w) in
    bit_later (2 ^ suc w - 1 - x) n ∙ ap (λ (y : ℕ). bit y n) e ∙ bit_others w (x / 2) n (omega (arith, pow-suc 2 w))
    ∙ ap₂ (λ (s t : Bool). s && not t) same_order (sym (bit_later x n))
  where
    same_order : ltb n w ≡ ltb (suc n) (suc w)
    same_order = elim (cases_lt n w) [ inl l ↦ lt-ltb n w l ∙ sym (lt-ltb (suc n) (suc w) (omega arith)) | inr l ↦ le-ltb n w l ∙ sym (le-ltb (suc n) (suc w) (omega arith)) ]

pub bit_ones : (w n : ℕ) → bit (2 ^ w - 1) n ≡ ltb n w
bit_ones w n =
    let e : 2 ^ w - 1 - 0 ≡ 2 ^ w - 1 = omega arith in
    ap (λ (y : ℕ). bit y n) (sym e) ∙ bit_others w 0 n (pow_pos w) ∙ ap (λ (t : Bool). ltb n w && not t) (bit_none n) ∙ and-true (ltb n w)

-- an operation on bits goes bit by bit
digits : (P : ℕ → ℕ → Type 0) → P 0 0 → P 0 1 → P 1 0 → P 1 1 → (a b : ℕ) → a < 2 → b < 2 → P a b
digits P p q r s zero zero h k = p
digits P p q r s zero (suc zero) h k = q
digits P p q r s (suc zero) zero h k = r
digits P p q r s (suc zero) (suc zero) h k = s
digits P p q r s (suc (suc a)) b h k = absurd (omega arith)
digits P p q r s zero (suc (suc b)) h k = absurd (omega arith)
digits P p q r s (suc zero) (suc (suc b)) h k = absurd (omega arith)

module _ (op : ℕ → ℕ → ℕ) (on : Bool → Bool → Bool) where
  bit_by_bit : ((a b k : ℕ) → op a b / 2 ^ k ≡ op (a / 2 ^ k) (b / 2 ^ k)) → ((a b k : ℕ) → op a b % 2 ^ k ≡ op (a % 2 ^ k) (b % 2 ^ k))
      → ((a b : ℕ) → a < 2 → b < 2 → eqb (op a b) 1 ≡ on (eqb a 1) (eqb b 1)) → (a b n : ℕ) → bit (op a b) n ≡ on (bit a n) (bit b n)
  bit_by_bit shift low one a b n =
      ap (λ (x : ℕ). eqb (x % 2) 1) (shift a b n)
      ∙ ap (λ (x : ℕ). eqb x 1) (low (a / 2 ^ n) (b / 2 ^ n) 1)
      ∙ one (a / 2 ^ n % 2) (b / 2 ^ n % 2) (omega arith) (omega arith)

pub bit-bit_and : (a b n : ℕ) → bit (bit_and a b) n ≡ (bit a n && bit b n)
bit-bit_and = bit_by_bit bit_and ◌&&◌ and_shr and_mod (digits (λ a b. eqb (bit_and a b) 1 ≡ (eqb a 1 && eqb b 1)) refl refl refl refl)

pub bit-bit_or : (a b n : ℕ) → bit (bit_or a b) n ≡ (bit a n || bit b n)
bit-bit_or = bit_by_bit bit_or ◌||◌ or_shr or_mod (digits (λ a b. eqb (bit_or a b) 1 ≡ (eqb a 1 || eqb b 1)) refl refl refl refl)

-- those of one set that are not in another, as `a & !b` makes it at w bits
pub bit_without : (w a b n : ℕ) → b < 2 ^ w → n < w → bit (bit_and a (2 ^ w - 1 - b)) n ≡ (bit a n && not (bit b n))
bit_without w a b n h l = bit-bit_and a (2 ^ w - 1 - b) n ∙ ap (λ (t : Bool). bit a n && t) (bit_others w b n h ∙ ap (λ (t : Bool). t && not (bit b n)) (lt-ltb n w l))

-- the lowest w bits
pub bit_low : (x w n : ℕ) → bit (x % 2 ^ w) n ≡ (bit x n && ltb n w)
bit_low x w n = ap (λ (y : ℕ). bit y n) (sym (and_mask x w)) ∙ bit-bit_and x (2 ^ w - 1) n ∙ ap (λ (t : Bool). bit x n && t) (bit_ones w n)

-- shifted up and down
pub bit_shr : (x k n : ℕ) → bit (x / 2 ^ k) n ≡ bit x (k + n)
bit_shr x k n = ap (λ (y : ℕ). eqb (y % 2) 1) (shr-shr x k n)

pub bit_shl : (x k n : ℕ) → bit (x * 2 ^ k) (k + n) ≡ bit x n
bit_shl x k n = sym (bit_shr (x * 2 ^ k) k n) ∙ ap (λ (y : ℕ). bit y n) (shl-shr x k)

pub bit_under : (x k n : ℕ) → n < k → bit (x * 2 ^ k) n ≡ false
bit_under x zero n h = absurd (omega arith)
bit_under x (suc k) zero h = bit_first (x * 2 ^ suc k) ∙ ap (λ (y : ℕ). eqb y 1) (shifted_even x k)
bit_under x (suc k) (suc n) h = bit_later (x * 2 ^ suc k) n ∙ ap (λ (y : ℕ). bit y n) (shifted_half x k) ∙ bit_under x k n (omega arith)

-- the set of one number, as `1 << k` makes it
pub bit_power : (k n : ℕ) → bit (1 * 2 ^ k) n ≡ eqb n k
bit_power k n =
    elim (cases_order n k) [
      | inl e ↦ rw e (ap (bit (1 * 2 ^ k)) (sym (add-zero k)) ∙ bit_shl 1 k 0 ∙ sym (eq-eqb k k refl))
      | inr o ↦
          elim o [
            | inl h ↦ bit_under 1 k n h ∙ sym (ne_eqb n k (λ e. omega arith))
            | inr h ↦
                let e : n ≡ k + (n - k) = omega arith in
                ap (bit (1 * 2 ^ k)) e ∙ bit_shl 1 k (n - k) ∙ bit_past 1 1 (n - k) (lit< tt) (omega arith) ∙ sym (ne_eqb n k (λ e. omega arith))
          ]
    ]

pub bit_one : (k n : ℕ) → k < 64 → bit ((1 * 2 ^ k) % 2 ^ 64) n ≡ eqb n k
bit_one k n h = ap (λ (x : ℕ). bit x n) (one_shl k 64 h ∙ sym (one-mul (2 ^ k))) ∙ bit_power k n

-- the smallest member, as `trailing_zeros` finds it
pub first_member : (w x : ℕ) → 0 < x → x < 2 ^ w → (bit x (count_trailing_zeros w x) ≡ true) × ((n : ℕ) → n < count_trailing_zeros w x → bit x n ≡ false)
unfolding count_trailing_zeros
first_member zero x h k = absurd (omega arith)
first_member (suc w) x h k = go (x % 2) refl (λ e. first_member w (x / 2) (omega arith) (omega (arith, pow-suc 2 w)))
  where
    go : (y : ℕ) → x % 2 ≡ y → (y ≡ 0 → (bit (x / 2) (count_trailing_zeros w (x / 2)) ≡ true) × ((n : ℕ) → n < count_trailing_zeros w (x / 2) → bit (x / 2) n ≡ false))
        → (bit x (under y (count_trailing_zeros w (x / 2))) ≡ true) × ((n : ℕ) → n < under y (count_trailing_zeros w (x / 2)) → bit x n ≡ false)
    go zero e half = (bit_later x (count_trailing_zeros w (x / 2)) ∙ (half refl).0, λ n l. before n l)
      where
        before : (n : ℕ) → n < suc (count_trailing_zeros w (x / 2)) → bit x n ≡ false
        before zero l = bit_first x ∙ ap (λ (y : ℕ). eqb y 1) e
        before (suc n) l = bit_later x n ∙ (half refl).1 n (omega arith)
    go (suc zero) e half = (bit_first x ∙ ap (λ (y : ℕ). eqb y 1) e, λ n l. absurd (omega arith))
    go (suc (suc y)) e half = absurd (omega arith)

-- sets with the same members are the same
same_digit : (a b : ℕ) → a < 2 → b < 2 → eqb a 1 ≡ eqb b 1 → a ≡ b
same_digit = digits (λ a b. eqb a 1 ≡ eqb b 1 → a ≡ b) (λ e. refl) (λ e. absurd (false≢true e)) (λ e. absurd (true≢false e)) (λ e. refl)

same_below : (w a b : ℕ) → a < 2 ^ w → b < 2 ^ w → ((n : ℕ) → bit a n ≡ bit b n) → a ≡ b
same_below zero a b h k same = omega arith
same_below (suc w) a b h k same =
    let p = pow-suc 2 w in
    let first = same_digit (a % 2) (b % 2) (omega arith) (omega arith) (sym (bit_first a) ∙ same 0 ∙ bit_first b) in
    let later = same_below w (a / 2) (b / 2) (omega arith) (omega arith) (λ n. sym (bit_later a n) ∙ same (suc n) ∙ bit_later b n) in
    omega arith

pub below_power : (n : ℕ) → n < 2 ^ n
below_power zero = lit< tt
below_power (suc n) = omega (arith, below_power n, pow-suc 2 n)

pub same_set : (a b : ℕ) → ((n : ℕ) → bit a n ≡ bit b n) → a ≡ b
same_set a b same =
    same_below (a + b) a b (lt_of_lt_of_le (below_power a) (pow_mono (omega arith))) (lt_of_lt_of_le (below_power b) (pow_mono (omega arith))) same
