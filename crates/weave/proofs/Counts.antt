-- Tests of the numbers below some: where one passes, whether any does, and how many do. Assumes nothing.
use Rattle.std.proofs.Common.{◌≡◌, ℕ, zero, suc, ◌+◌, ◌<◌, ◌≤◌, Bool, true, false, ◌||◌, ◌⊎◌, sym, ◌∙◌, inl, inr, le_antisymm, arith}
use Rattle.std.proofs.lemmas.Bool.{cases_Bool, cases_eq, or_cases, or_left, or_right, both_ways, false≢true}
use Rattle.weave.specs.Rows.{pick}

-- whether any number below n passes
unfoldable pub any : (ℕ → Bool) → ℕ → Bool
any f zero = false
any f (suc n) = f n || any f n

pub any_at : (f : ℕ → Bool) (n i : ℕ) → i < n → f i ≡ true → any f n ≡ true
unfolding any
any_at f zero i h e = absurd (omega arith)
any_at f (suc n) i h e =
    elim (cases_eq i n) [
      | inl q ↦ or_left (f n) (any f n) (rw q at e)
      | inr q ↦ or_right (f n) (any f n) (any_at f n i (omega arith) e)
    ]

pub any_where : (f : ℕ → Bool) (n : ℕ) → any f n ≡ true → (i : ℕ) × (i < n) × (f i ≡ true)
unfolding any
any_where f zero e = absurd (false≢true e)
any_where f (suc n) e =
    elim (or_cases (f n) (any f n) e) [
      | inl h ↦ (n, omega arith, h)
      | inr h ↦ let w = any_where f n h in let k = w.1 in (w.0, omega arith, w.2)
    ]

pub any_none : (f : ℕ → Bool) (n : ℕ) → any f n ≡ false → (i : ℕ) → i < n → f i ≡ false
any_none f n e i h = elim (cases_Bool (f i)) [ inl t ↦ absurd (both_ways (any f n) e (any_at f n i h t)) | inr t ↦ t ]

pub none_any : (f : ℕ → Bool) (n : ℕ) → ((i : ℕ) → i < n → f i ≡ false) → any f n ≡ false
none_any f n h =
    elim (cases_Bool (any f n)) [
      | inl t ↦ let w = any_where f n t in absurd (both_ways (f w.0) (h w.0 w.1) w.2)
      | inr t ↦ t
    ]

-- a test, and a test of two, either passes somewhere or fails everywhere
pub find : (f : ℕ → Bool) (n : ℕ) → ((i : ℕ) × (i < n) × (f i ≡ true)) ⊎ ((i : ℕ) → i < n → f i ≡ false)
find f n = elim (cases_Bool (any f n)) [ inl e ↦ inl (any_where f n e) | inr e ↦ inr (any_none f n e) ]

pub find₂ : (f : ℕ → ℕ → Bool) (m n : ℕ) → ((i : ℕ) × (j : ℕ) × (i < m) × (j < n) × (f i j ≡ true)) ⊎ ((i j : ℕ) → i < m → j < n → f i j ≡ false)
find₂ f m n =
    elim (find (λ i. any (f i) n) m) [
      | inl x ↦ let w = any_where (f x.0) n x.2 in inl (x.0, w.0, x.1, w.1, w.2)
      | inr no_one ↦ inr (λ i j h k. any_none (f i) n (no_one i h) j k)
    ]

-- how many numbers below n pass
unfoldable pub count : (ℕ → Bool) → ℕ → ℕ
count f zero = 0
count f (suc n) = pick (f n) 1 0 + count f n

pub count_most : (f : ℕ → Bool) (n : ℕ) → count f n ≤ n
unfolding count
count_most f zero = omega arith
count_most f (suc n) = let k = count_most f n in elim (cases_Bool (f n)) [ inl e ↦ rw e (omega arith) | inr e ↦ rw e (omega arith) ]

-- where as many pass as there are, all do
pub count_all : (f : ℕ → Bool) (n : ℕ) → n ≤ count f n → (i : ℕ) → i < n → f i ≡ true
unfolding count
count_all f zero h i k = absurd (omega arith)
count_all f (suc n) h i k =
    let m = count_most f n in
    elim (cases_Bool (f n)) [
      | inl e ↦
          let l : suc n ≤ 1 + count f n = rw e at h in
          elim (cases_eq i n) [ inl q ↦ rw q e | inr q ↦ count_all f n (omega arith) i (omega arith) ]
      | inr e ↦ let l : suc n ≤ 0 + count f n = rw e at h in absurd (omega arith)
    ]

-- what passes one test and another: no fewer, and more if something passes only the other
pub count_fewer : (f g : ℕ → Bool) (n : ℕ) → ((i : ℕ) → i < n → f i ≡ true → g i ≡ true) → count f n ≤ count g n
unfolding count
count_fewer f g zero h = omega arith
count_fewer f g (suc n) h =
    let rest = count_fewer f g n (λ i k. h i (omega arith)) in
    elim (cases_Bool (f n)) [
      | inl e ↦ rw (e, h n (omega arith) e) (omega arith)
      | inr e ↦ elim (cases_Bool (g n)) [ inl t ↦ rw (e, t) (omega arith) | inr t ↦ rw (e, t) (omega arith) ]
    ]

pub count_more : (f g : ℕ → Bool) (n : ℕ) → ((i : ℕ) → i < n → f i ≡ true → g i ≡ true) → (i : ℕ) → i < n → f i ≡ false → g i ≡ true → count f n < count g n
unfolding count
count_more f g zero h i k e t = absurd (omega arith)
count_more f g (suc n) h i k e t =
    elim (cases_eq i n) [
      | inl q ↦
          let rest = count_fewer f g n (λ j l. h j (omega arith)) in
          let e' : f n ≡ false = rw q at e in
          let t' : g n ≡ true = rw q at t in
          rw (e', t') (omega arith)
      | inr q ↦
          let rest = count_more f g n (λ j l. h j (omega arith)) i (omega arith) e t in
          elim (cases_Bool (f n)) [
            | inl a ↦ rw (a, h n (omega arith) a) (omega arith)
            | inr a ↦ elim (cases_Bool (g n)) [ inl b ↦ rw (a, b) (omega arith) | inr b ↦ rw (a, b) (omega arith) ]
          ]
    ]

pub count_same : (f g : ℕ → Bool) (n : ℕ) → ((i : ℕ) → i < n → f i ≡ g i) → count f n ≡ count g n
count_same f g n h =
    le_antisymm (count_fewer f g n (λ i k e. sym (h i k) ∙ e)) (count_fewer g f n (λ i k e. h i k ∙ e))
