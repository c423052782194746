-- What holds of every number of a list, and of 0 where there is none.
use Rattle.std.proofs.Common.{ℕ, zero, suc, ◌+◌, List, [], ◌∷◌, ◌++◌, length, get_or, take, drop, set, replicate}
use Rattle.encoding.specs.Numbers.{placed}

abbrev pub Each : (ℕ → Type 0) → List ℕ → Type 0
Each P l = (i : ℕ) → P (get_or l i 0)

module _ (P : ℕ → Type 0) where
  pub each_cons : (x : ℕ) (l : List ℕ) → P x → Each P l → Each P (x ∷ l)
  each_cons x l p all zero = p
  each_cons x l p all (suc i) = all i

  pub each_append : (k l : List ℕ) → Each P k → Each P l → Each P (k ++ l)
  each_append [] l all more i = more i
  each_append (x ∷ k) l all more zero = all 0
  each_append (x ∷ k) l all more (suc i) = each_append k l (λ j. all (suc j)) more i

  pub each_set : (l : List ℕ) (n x : ℕ) → P x → Each P l → Each P (set l n x)
  each_set [] n x p all i = all i
  each_set (y ∷ l) zero x p all zero = p
  each_set (y ∷ l) zero x p all (suc i) = all (suc i)
  each_set (y ∷ l) (suc n) x p all zero = all 0
  each_set (y ∷ l) (suc n) x p all (suc i) = each_set l n x p (λ j. all (suc j)) i

module _ (P : ℕ → Type 0) (none : P 0) where
  pub each_nil : Each P []
  each_nil i = none

  pub each_take : (n : ℕ) (l : List ℕ) → Each P l → Each P (take n l)
  each_take zero l all i = none
  each_take (suc n) [] all i = none
  each_take (suc n) (x ∷ l) all zero = all 0
  each_take (suc n) (x ∷ l) all (suc i) = each_take n l (λ j. all (suc j)) i

  pub each_drop : (n : ℕ) (l : List ℕ) → Each P l → Each P (drop n l)
  each_drop zero l all i = all i
  each_drop (suc n) [] all i = none
  each_drop (suc n) (x ∷ l) all i = each_drop n l (λ j. all (suc j)) i

  pub each_zeros : (n : ℕ) → Each P (replicate n 0)
  each_zeros zero i = none
  each_zeros (suc n) zero = none
  each_zeros (suc n) (suc i) = each_zeros n i

  pub each_placed : (m : List ℕ) (a : ℕ) (ws : List ℕ) → Each P ws → Each P m → Each P (placed m a ws)
  unfolding placed
  each_placed m a ws all more =
      each_append P (take a m) (ws ++ drop (a + length ws) m) (each_take a m more) (each_append P ws (drop (a + length ws) m) all (each_drop (a + length ws) m more))
