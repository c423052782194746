-- Which numbers a row has, by the rows in it; and the numbers of a run as a set.
use Rattle.std.proofs.Common.{◌≡◌, ℕ, zero, suc, ◌+◌, ◌-◌, ◌*◌, ◌/◌, ◌%◌, ◌^◌, ◌<◌, ◌≤◌, min, max, Bool, true, ◌&&◌, ◌||◌, eqb, ltb, leb, List, length, get_or, sym, ap, ◌∙◌, ap₂, inl, inr, arith}
use mathlib.Core.Bool.{or-false, or_self, or_comm}
use lib.Bits.{bit_and}
use Rattle.std.proofs.lemmas.List.{append-nil}
use Rattle.std.proofs.lemmas.Bool.{cases_lt, and_parts, and_from, and_left, and_right, ltb-true, leb-true, le-leb, lt-leb, lt-ltb, le-ltb}
use Rattle.weave.specs.Rows.{Row, one, then, times, turned, run, again, written, long, below, some_each}
use Rattle.weave.specs.Cloth.{among}
use Rattle.weave.specs.Promise.{number_at}
use Rattle.weave.proofs.Rows.{length_written, get_or_written}
use Rattle.weave.proofs.Cloth.{among_at, among_where, among_append, among_reversed}
use Rattle.weave.proofs.Differ.{same_test}
use Rattle.rows.proofs.Parts.{run_long, run_up, run_down}
use Rattle.lent.specs.Bits.{bit}
use Rattle.sets.proofs.Members.{bit-bit_and, bit_ones, bit_low, bit_shr, bit_shl, bit_under}

among_again : (n k : ℕ) (xs : List ℕ) → among n (again (suc k) xs) ≡ among n xs
unfolding again
among_again n zero xs = ap (among n) (append-nil xs)
among_again n (suc k) xs = among_append n xs (again (suc k) xs) ∙ ap (λ (t : Bool). t || among n xs) (among_again n k xs) ∙ or_self (among n xs)

-- of a row, by its outermost part
pub among_one : (n x : ℕ) → among n (written (one x)) ≡ eqb n x
unfolding written among
among_one n x = or-false (eqb n x)

pub among_then : (n : ℕ) (p q : Row) → among n (written (then p q)) ≡ (among n (written p) || among n (written q))
unfolding written
among_then n p q = among_append n (written p) (written q) ∙ or_comm (among n (written q)) (among n (written p))

pub among_times : (n k : ℕ) (p : Row) → some_each (times k p) ≡ true → among n (written (times k p)) ≡ among n (written p)
unfolding written some_each
among_times n zero p s = absurd (let h = ltb-true 0 0 (and_parts (ltb 0 0) (some_each p) s).0 in omega arith)
among_times n (suc k) p s = among_again n k (written p)

pub among_turned : (n : ℕ) (p : Row) → among n (written (turned p)) ≡ among n (written p)
unfolding written
among_turned n p = among_reversed n (written p)

-- all numbers below some, by the outermost part
pub below_one : (m n : ℕ) → below m (one n) ≡ true → n < m
unfolding below
below_one m n h = ltb-true n m h

pub below_then : (m : ℕ) (p q : Row) → below m (then p q) ≡ true → (below m p ≡ true) × (below m q ≡ true)
unfolding below
below_then m p q h = and_parts (below m p) (below m q) h

pub below_times : (m n : ℕ) (p : Row) → below m (times n p) ≡ true → below m p ≡ true
unfolding below
below_times m n p h = h

pub below_turned : (m : ℕ) (p : Row) → below m (turned p) ≡ true → below m p ≡ true
unfolding below
below_turned m p h = h

pub below_run : (m a b : ℕ) → below m (run a b) ≡ true → (a < m) × (b < m)
unfolding below
below_run m a b h = let t = and_parts (ltb a m) (ltb b m) h in (ltb-true a m t.0, ltb-true b m t.1)

-- a run has the numbers between its ends
in_run : (a b i : ℕ) → i < long (run a b) → (min a b ≤ number_at (run a b) i) × (number_at (run a b) i ≤ max a b)
in_run a b i h =
    let l = run_long a b in
    elim (cases_lt b a) [
      | inl k ↦ rw (run_down a b i k) (omega arith, omega arith)
      | inr k ↦ rw (run_up a b i k) (omega arith, omega arith)
    ]

at_run : (a b n : ℕ) → min a b ≤ n → n ≤ max a b → (i : ℕ) × (i < long (run a b)) × (number_at (run a b) i ≡ n)
at_run a b n h k =
    let l = run_long a b in
    elim (cases_lt b a) [
      | inl o ↦ (a - n, omega arith, run_down a b (a - n) o ∙ omega arith)
      | inr o ↦ (n - a, omega arith, run_up a b (n - a) o ∙ omega arith)
    ]

pub among_run : (n a b : ℕ) → among n (written (run a b)) ≡ (leb (min a b) n && leb n (max a b))
among_run n a b =
    same_test (among n (written (run a b))) (leb (min a b) n && leb n (max a b))
    (λ e.
    let w = among_where n (written (run a b)) e in
    let h : w.0 < long (run a b) = rw (length_written (run a b)) at w.1 in
    let m = w.2 ∙ get_or_written (run a b) w.0 h in
    let i = in_run a b w.0 h in
    and_from (leb (min a b) n) (leb n (max a b)) (le-leb (min a b) n (omega arith)) (le-leb n (max a b) (omega arith)))
    (λ e.
    let t = and_parts (leb (min a b) n) (leb n (max a b)) e in
    let w = at_run a b n (leb-true (min a b) n t.0) (leb-true n (max a b) t.1) in
    let h : w.0 < length (written (run a b)) = rw (length_written (run a b)) w.1 in
    let m : get_or (written (run a b)) w.0 0 ≡ n = get_or_written (run a b) w.0 w.1 ∙ w.2 in
    ap (λ (x : ℕ). among x (written (run a b))) (sym m) ∙ among_at (written (run a b)) w.0 h)

-- all bits from lo on and all up to hi, of 64
pub bit_span : (lo hi n : ℕ) → lo < 64 → hi < 64 → bit (bit_and (18446744073709551615 * 2 ^ lo % 2 ^ 64) (18446744073709551615 / 2 ^ (63 - hi))) n ≡ (leb lo n && leb n hi)
bit_span lo hi n h k =
    bit-bit_and (18446744073709551615 * 2 ^ lo % 2 ^ 64) (18446744073709551615 / 2 ^ (63 - hi)) n
    ∙ elim (cases_lt hi n) [
      | inl l ↦ and_right _ _ (upto ∙ lt-leb n hi l) ∙ sym (and_right (leb lo n) (leb n hi) (lt-leb n hi l))
      | inr l ↦ ap₂ ◌&&◌ (from (omega arith)) upto
    ]
  where
    from : n < 64 → bit (18446744073709551615 * 2 ^ lo % 2 ^ 64) n ≡ leb lo n
    from m =
        bit_low (18446744073709551615 * 2 ^ lo) 64 n
        ∙ elim (cases_lt n lo) [
          | inl l ↦ and_left _ (ltb n 64) (bit_under 18446744073709551615 lo n l) ∙ sym (lt-leb lo n l)
          | inr l ↦
              let e : lo + (n - lo) ≡ n = omega arith in
              let b = ap (bit (18446744073709551615 * 2 ^ lo)) (sym e) ∙ bit_shl 18446744073709551615 lo (n - lo) ∙ bit_ones 64 (n - lo) ∙ lt-ltb (n - lo) 64 (omega arith) in
              and_from _ (ltb n 64) b (lt-ltb n 64 m) ∙ sym (le-leb lo n l)
        ]

    upto : bit (18446744073709551615 / 2 ^ (63 - hi)) n ≡ leb n hi
    upto =
        bit_shr 18446744073709551615 (63 - hi) n ∙ bit_ones 64 (63 - hi + n)
        ∙ elim (cases_lt hi n) [
          | inl l ↦ le-ltb (63 - hi + n) 64 (omega arith) ∙ sym (lt-leb n hi l)
          | inr l ↦ lt-ltb (63 - hi + n) 64 (omega arith) ∙ sym (le-leb n hi l)
        ]
