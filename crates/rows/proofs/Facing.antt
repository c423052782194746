-- Laws of a row gone along, forth and back.
use Rattle.std.proofs.Common.{◌≡◌, ℕ, suc, ◌+◌, ◌-◌, ◌*◌, ◌/◌, ◌%◌, ◌<◌, ◌≤◌, Bool, true, false, not, List, length, sym, refl, ap, ◌∙◌, inl, inr, suc-mul, add-mul, arith}
use Rattle.std.proofs.lemmas.Nat.{div-add-mod', mod-mul-add, div_below, mod_below}
use Rattle.std.proofs.lemmas.Bool.{cases_lt, true≢false, false≢true}
use Rattle.weave.specs.Rows.{Row, one, then, times, turned, run, long}
use Rattle.weave.specs.Promise.{number_at}
use Rattle.rows.specs.Along.{facing, Along, Around}
use Rattle.rows.proofs.Parts.{run_long, run_up, run_down, long_then, long_times, long_turned, at_one, at_first, at_second, at_times, at_turned}

pub long_facing : (b : Bool) (r : Row) → long (facing b r) ≡ long r
long_facing true r = long_turned r
long_facing false r = refl

pub facing_one : (b : Bool) (n i : ℕ) → number_at (facing b (one n)) i ≡ n
facing_one true n i = at_turned (one n) i ∙ at_one n _
facing_one false n i = at_one n i

pub facing_run : (a b i : ℕ) → i < long (run a b) → number_at (turned (run a b)) i ≡ number_at (run b a) i
facing_run a b i h =
    let l = run_long a b in
    elim (cases_lt a b) [
      | inl k ↦ at_turned (run a b) i ∙ (run_up a b _ (omega arith) ∙ (let e : a + (long (run a b) - suc i) ≡ b - i = omega arith in e ∙ sym (run_down b a i k)))
      | inr k ↦
          elim (cases_lt b a) [
            | inl m ↦ at_turned (run a b) i ∙ (run_down a b _ m ∙ (let e : a - (long (run a b) - suc i) ≡ b + i = omega arith in e ∙ sym (run_up b a i k)))
            | inr m ↦ at_turned (run a b) i ∙ (run_up a b _ m ∙ (let e : a + (long (run a b) - suc i) ≡ b + i = omega arith in e ∙ sym (run_up b a i k)))
          ]
    ]

pub facing_then : (p q : Row) (i : ℕ) → i < long p + long q → number_at (turned (then p q)) i ≡ number_at (then (turned q) (turned p)) i
facing_then p q i h =
    let l = long_then p q in
    let t = long_turned q in
    elim (cases_lt i (long q)) [
      | inl k ↦
          at_turned (then p q) i
          ∙ (at_second p q _ (omega arith)
          ∙ (ap (number_at q) (omega arith) ∙ (sym (at_turned q i) ∙ sym (at_first (turned q) (turned p) i (omega arith)))))
      | inr k ↦
          at_turned (then p q) i
          ∙ (at_first p q _ (omega arith)
          ∙ (ap (number_at p) (omega arith) ∙ (sym (at_turned p (i - long (turned q))) ∙ sym (at_second (turned q) (turned p) i (omega arith)))))
    ]

-- the place of the i-th from behind, in the last of n rounds or one before it
mirror : (n m i : ℕ) → 0 < m → i < n * m → (n * m - suc i) % m ≡ m - suc (i % m)
mirror n m i pos h =
    let q : i / m < n = div_below i m n pos h in
    let e = div-add-mod' i m in
    let k = mod_below i m pos in
    let d : n ≡ (n - suc (i / m)) + suc (i / m) = omega arith in
    let g : n * m ≡ (n - suc (i / m)) * m + suc (i / m) * m = ap (λ (x : ℕ). x * m) d ∙ add-mul (n - suc (i / m)) (suc (i / m)) m in
    let s = suc-mul (i / m) m in
    let f : n * m - suc i ≡ (n - suc (i / m)) * m + (m - suc (i % m)) = omega arith in
    rw f (mod-mul-add (n - suc (i / m)) m (m - suc (i % m)) (omega arith))

pub facing_times : (b : Bool) (n : ℕ) (p : Row) (i : ℕ) → 0 < long p → i < n * long p → number_at (facing b (times n p)) i ≡ number_at (facing b p) (i % long p)
facing_times true n p i pos h =
    at_turned (times n p) i
    ∙ (at_times n p _ ∙ (ap (number_at p) (rw (long_times n p) (mirror n (long p) i pos h)) ∙ sym (at_turned p (i % long p))))
facing_times false n p i pos h = at_times n p i

pub facing_turned : (b : Bool) (p : Row) (i : ℕ) → i < long p → number_at (facing b (turned p)) i ≡ number_at (facing (not b) p) i
facing_turned true p i h = at_turned (turned p) i ∙ (at_turned p _ ∙ ap (number_at p) (omega (arith, long_turned p)))
facing_turned false p i h = refl

-- a row's numbers, by those of the rows in it
pub along_run_back : (b : Bool) (x y from : ℕ) (ns : List ℕ) → b ≡ true → from + length ns ≤ long (run x y) → Along (run y x) from ns → Along (facing b (run x y)) from ns
along_run_back true x y from ns e room a k h = a k h ∙ sym (facing_run x y (from + k) (omega arith))
along_run_back false x y from ns e room a k h = absurd (false≢true e)

pub along_run_forth : (b : Bool) (x y from : ℕ) (ns : List ℕ) → b ≡ false → Along (run x y) from ns → Along (facing b (run x y)) from ns
along_run_forth true x y from ns e a k h = absurd (true≢false e)
along_run_forth false x y from ns e a k h = a k h

pub along_then_back : (b : Bool) (p q : Row) (from : ℕ) (ns : List ℕ) → b ≡ true → from + length ns ≤ long (then p q) → Along (then (facing b q) (facing b p)) from ns → Along (facing b (then p q)) from ns
along_then_back true p q from ns e room a k h = a k h ∙ sym (facing_then p q (from + k) (omega (arith, long_then p q)))
along_then_back false p q from ns e room a k h = absurd (false≢true e)

pub along_then_forth : (b : Bool) (p q : Row) (from : ℕ) (ns : List ℕ) → b ≡ false → Along (then (facing b p) (facing b q)) from ns → Along (facing b (then p q)) from ns
along_then_forth true p q from ns e a k h = absurd (true≢false e)
along_then_forth false p q from ns e a k h = a k h

pub along_times : (b : Bool) (n : ℕ) (p : Row) (from : ℕ) (ns : List ℕ) → 0 < long p → from + length ns ≤ long (times n p) → Around (facing b p) from ns → Along (facing b (times n p)) from ns
along_times b n p from ns pos room a k h =
    (rw (long_facing b p) at (a k h)) ∙ sym (facing_times b n p (from + k) pos (omega (arith, long_times n p)))

pub along_turned : (b : Bool) (p : Row) (from : ℕ) (ns : List ℕ) → from + length ns ≤ long (turned p) → Along (facing (not b) p) from ns → Along (facing b (turned p)) from ns
along_turned b p from ns room a k h = a k h ∙ sym (facing_turned b p (from + k) (omega (arith, long_turned p)))
