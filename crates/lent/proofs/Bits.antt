-- Bits of a number, and its list of them.
use Rattle.std.proofs.Common.{◌≡◌, ℕ, zero, suc, ◌/◌, ◌%◌, ◌^◌, ◌<◌, ◌≤◌, false, not, eqb, ◌∷◌, length, get_or, set, replicate, sym, refl, ap, ◌∙◌, lt_of_lt_of_le, one-mul, one-add, arith, pow_mono}
use native.Mathlib.Nat.{div-eq_of_lt}
use lib.Bits.{bit_xor, xor_shr, xor_mod, xor_zero_r, shifted_half, shifted_even}
use Rattle.std.proofs.lemmas.Nat.{shr-shr}
use Rattle.lent.specs.Bits.{bit, bits_of}

pub length_bits : (n w : ℕ) → length (bits_of n w) ≡ n
unfolding bits_of
length_bits zero w = refl
length_bits (suc n) w = ap suc (length_bits n (w / 2))

pub bit_at : (n w s : ℕ) → s < n → get_or (bits_of n w) s false ≡ bit w s
unfolding bits_of
bit_at zero w s lt = absurd (omega arith)
bit_at (suc n) w zero lt = let e : w / 1 ≡ w = omega arith in ap (λ x. eqb (x % 2) 1) (sym e)
bit_at (suc n) w (suc s) lt = bit_at n (w / 2) s (omega arith) ∙ ap (λ x. eqb (x % 2) 1) (shr-shr w 1 s ∙ ap (λ k. w / 2 ^ k) (one-add s))

pub no_bits : (n : ℕ) → bits_of n 0 ≡ replicate n false
unfolding bits_of
no_bits zero = refl
no_bits (suc n) = ap (λ bs. false ∷ bs) (no_bits n)

one_bit : (x : ℕ) → x < 2 → eqb (bit_xor x 1) 1 ≡ not (eqb x 1)
one_bit zero lt = refl
one_bit (suc zero) lt = refl
one_bit (suc (suc x)) lt = absurd (omega arith)

xor_one : (w : ℕ) → eqb (bit_xor w 1 % 2) 1 ≡ not (eqb (w % 2) 1)
xor_one w = ap (λ x. eqb x 1) (xor_mod w 1 1) ∙ one_bit (w % 2) (omega arith)

xor_half : (w : ℕ) → bit_xor w 1 / 2 ≡ w / 2
xor_half w = xor_shr w 1 1 ∙ xor_zero_r (w / 2)

xor_up_mod : (w s : ℕ) → bit_xor w (2 ^ suc s) % 2 ≡ w % 2
xor_up_mod w s = xor_mod w (2 ^ suc s) 1 ∙ ap (λ x. bit_xor (w % 2) x) (simp one-mul at (shifted_even 1 s)) ∙ xor_zero_r (w % 2)

xor_up_half : (w s : ℕ) → bit_xor w (2 ^ suc s) / 2 ≡ bit_xor (w / 2) (2 ^ s)
xor_up_half w s = xor_shr w (2 ^ suc s) 1 ∙ ap (λ x. bit_xor (w / 2) x) (simp one-mul at (shifted_half 1 s))

-- a bit of the number turned is an element of the list turned
pub turned_bit : (n w s : ℕ) → bits_of n (bit_xor w (2 ^ s)) ≡ set (bits_of n w) s (not (get_or (bits_of n w) s false))
unfolding bits_of
turned_bit zero w s = refl
turned_bit (suc n) w zero = ap (λ b. b ∷ bits_of n (bit_xor w 1 / 2)) (xor_one w) ∙ ap (λ x. not (eqb (w % 2) 1) ∷ bits_of n x) (xor_half w)
turned_bit (suc n) w (suc s) =
    ap (λ x. eqb x 1 ∷ bits_of n (bit_xor w (2 ^ suc s) / 2)) (xor_up_mod w s)
    ∙ ap (λ x. eqb (w % 2) 1 ∷ bits_of n x) (xor_up_half w s)
    ∙ ap (λ bs. eqb (w % 2) 1 ∷ bs) (turned_bit n (w / 2) s)

-- a number of n bits has none beyond
pub bit_past : (n w s : ℕ) → w < 2 ^ n → n ≤ s → bit w s ≡ false
bit_past n w s lt le = ap (λ x. eqb (x % 2) 1) (div-eq_of_lt (lt_of_lt_of_le lt (pow_mono le)))
