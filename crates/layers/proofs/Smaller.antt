-- Going through sets for the first of the smallest. Assumes nothing.
use Rattle.std.proofs.Common.{◌≡◌, ℕ, ◌+◌, ◌<◌, ◌≤◌, true, ◌⊎◌, List, get_or, sym, refl, inl, inr, arith}
use lib.Count.{ones}
use Rattle.std.proofs.lemmas.Bool.{cases_eq}
use Rattle.lent.specs.Bits.{bit}
use Rattle.layers.specs.Told.{Smallest}

-- so far
abbrev pub Smaller : List ℕ → ℕ → ℕ → ℕ → Type 0
Smaller sets all x k =
    ((x ≡ all) × ((y : ℕ) → y < k → bit all y ≡ true → ones all ≤ ones (get_or sets y 0)))
    ⊎ ((i : ℕ) × (bit all i ≡ true) × (x ≡ get_or sets i 0) × (ones x < ones all)
    × ((y : ℕ) → y < k → bit all y ≡ true → ones x ≤ ones (get_or sets y 0))
    × ((y : ℕ) → y < i → bit all y ≡ true → ones x < ones (get_or sets y 0)))

module _ (sets : List ℕ) (all x k : ℕ) (so_far : Smaller sets all x k) where
  -- what is not in the set of all, or isn't smaller
  pub smaller_passed : (bit all k ≡ true → ones x ≤ ones (get_or sets k 0)) → Smaller sets all x (k + 1)
  smaller_passed large =
      elim so_far [
        | inl s ↦ inl (s.0, λ y h u. elim (cases_eq y k) [ inl e ↦ rw (sym s.0, e) (large (rw e at u)) | inr e ↦ s.1 y (omega arith) u ])
        | inr s ↦ inr (s.0, s.1, s.2, s.3, λ y h u. elim (cases_eq y k) [ inl e ↦ rw e (large (rw e at u)) | inr e ↦ s.4 y (omega arith) u ], s.5)
      ]

  pub smaller_taken : bit all k ≡ true → ones (get_or sets k 0) < ones x → Smaller sets all (get_or sets k 0) (k + 1)
  smaller_taken used small =
      inr (
        k,
        used,
        refl,
        elim so_far [ inl s ↦ rw (← s.0) small | inr s ↦ omega (arith, s.3) ],
        λ y h u. elim (cases_eq y k) [ inl e ↦ rw e (omega arith) | inr e ↦ omega (arith, before y (omega arith) u) ],
        λ y h u. omega (arith, before y h u),
      )
    where
      before : (y : ℕ) → y < k → bit all y ≡ true → ones x ≤ ones (get_or sets y 0)
      before y h u = elim so_far [ inl s ↦ rw s.0 (s.1 y h u) | inr s ↦ s.4 y h u ]

  pub smaller_all : ((y : ℕ) → bit all y ≡ true → y < k) → Smallest sets all x
  smaller_all inside =
      elim so_far [ inl s ↦ inl (s.0, λ y u. s.1 y (inside y u) u) | inr s ↦ inr (s.0, s.1, s.2, s.3, λ y u. s.4 y (inside y u) u, s.5) ]
