-- A set that is gathered number by number.
use Rattle.std.proofs.Common.{◌≡◌, ℕ, ◌+◌, ◌<◌, Bool, true, false, ◌&&◌, ◌||◌, eqb, ltb, ◌⊎◌, sym, ap, ◌∙◌, inl, inr, arith}
use mathlib.Core.Bool.{or-false}
use Rattle.std.proofs.lemmas.Bool.{cases_order, eq-eqb, ne_eqb, lt-ltb, le-ltb, and_from, and_right, or_right}

module _ (b : ℕ → Bool) where
  -- none yet
  pub gathered_none : (n : ℕ) → (ltb n 0 && b n) ≡ false
  gathered_none n = rw (le-ltb n 0 (omega arith))

  -- one number more
  apart : (n t : ℕ) → (n < t) ⊎ (t < n) → (ltb n (t + 1) ≡ ltb n t) × (eqb n t ≡ false)
  apart n t (inl h) = (lt-ltb n (t + 1) (omega arith) ∙ sym (lt-ltb n t h), ne_eqb n t (λ e. omega arith))
  apart n t (inr h) = (le-ltb n (t + 1) (omega arith) ∙ sym (le-ltb n t (omega arith)), ne_eqb n t (λ e. omega arith))

  pub gathered_taken : (t n : ℕ) → b t ≡ true → ((ltb n t && b n) || eqb n t) ≡ (ltb n (t + 1) && b n)
  gathered_taken t n e =
      elim (cases_order n t) [
        | inl o ↦ or_right (ltb n t && b n) (eqb n t) (eq-eqb n t o) ∙ sym (and_from (ltb n (t + 1)) (b n) (lt-ltb n (t + 1) (omega arith)) (ap b o ∙ e))
        | inr o ↦ rw ((apart n t o).0, (apart n t o).1) (or-false (ltb n t && b n))
      ]

  pub gathered_passed : (t n : ℕ) → b t ≡ false → (ltb n t && b n) ≡ (ltb n (t + 1) && b n)
  gathered_passed t n e =
      elim (cases_order n t) [
        | inl o ↦ and_right (ltb n t) (b n) (ap b o ∙ e) ∙ sym (and_right (ltb n (t + 1)) (b n) (ap b o ∙ e))
        | inr o ↦ rw (apart n t o).0
      ]
