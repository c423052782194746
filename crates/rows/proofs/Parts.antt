-- Laws of a row by its outermost part: how long, how large, how deep it is, the number at a place; and what is small is made of what is small.
use Rattle.std.proofs.Common.{◌≡◌, ℕ, suc, ◌+◌, ◌-◌, ◌*◌, ◌%◌, ◌<◌, ◌≤◌, true, ◌&&◌, leb, refl, mul_comm, le-mul_of_pos_right, arith}
use Rattle.std.proofs.lemmas.Bool.{and_parts, ltb-true, leb-true, le-leb, lt-leb, lt-ltb, le-ltb}
use Rattle.std.proofs.lemmas.Bool.Decides.{nat_tests}
use Rattle.weave.specs.Rows.{Row, one, then, times, turned, run, long, size, deep, below, some_each}
use Rattle.weave.specs.Calls.{good_row}
use Rattle.weave.specs.Promise.{fields_in, number_at, carried}
use Rattle.rows.specs.Words.{Small}

-- how long a run is, and its numbers
pub run_long : (a b : ℕ) → long (run a b) ≡ suc ((b - a) + (a - b))
unfolding long
run_long a b = refl

pub run_up : (a b i : ℕ) → a ≤ b → number_at (run a b) i ≡ a + i
unfolding number_at
run_up a b i h = rw (le-leb a b h)

pub run_down : (a b i : ℕ) → b < a → number_at (run a b) i ≡ a - i
unfolding number_at
run_down a b i h = rw (lt-leb a b h)

-- how deep the rows in a row are
pub deep_some : (r : Row) → 1 ≤ deep r
unfolding deep
deep_some (one n) = omega arith
deep_some (then r s) = omega arith
deep_some (times n r) = omega arith
deep_some (turned r) = omega arith
deep_some (run a b) = omega arith

pub deep_then : (r s : Row) → (deep r < deep (then r s)) × (deep s < deep (then r s))
unfolding deep
deep_then r s = grind (arith, nat_tests)

pub deep_times : (n : ℕ) (r : Row) → deep (times n r) ≡ suc (deep r)
unfolding deep
deep_times n r = refl

pub deep_turned : (r : Row) → deep (turned r) ≡ suc (deep r)
unfolding deep
deep_turned r = refl

-- how long a row is, by the rows in it
pub long_then : (r s : Row) → long (then r s) ≡ long r + long s
unfolding long
long_then r s = refl

pub long_times : (n : ℕ) (r : Row) → long (times n r) ≡ n * long r
unfolding long
long_times n r = refl

pub long_turned : (r : Row) → long (turned r) ≡ long r
unfolding long
long_turned r = refl

-- a number's place, by the rows in a row
pub at_one : (n i : ℕ) → number_at (one n) i ≡ n
unfolding number_at
at_one n i = refl

pub at_first : (r s : Row) (i : ℕ) → i < long r → number_at (then r s) i ≡ number_at r i
unfolding number_at
at_first r s i h = rw (lt-ltb i (long r) h)

pub at_second : (r s : Row) (i : ℕ) → long r ≤ i → number_at (then r s) i ≡ number_at s (i - long r)
unfolding number_at
at_second r s i h = rw (le-ltb i (long r) h)

pub at_times : (n : ℕ) (r : Row) (i : ℕ) → number_at (times n r) i ≡ number_at r (i % long r)
unfolding number_at
at_times n r i = refl

pub at_turned : (r : Row) (i : ℕ) → number_at (turned r) i ≡ number_at r (long r - suc i)
unfolding number_at
at_turned r i = refl

-- numbers of four bytes, by the rows in a row
pub fields_then : (r s : Row) → fields_in (then r s) ≡ true → (fields_in r ≡ true) × (fields_in s ≡ true)
unfolding fields_in
fields_then r s h = and_parts _ _ h

pub fields_times : (n : ℕ) (r : Row) → fields_in (times n r) ≡ true → fields_in r ≡ true
unfolding fields_in
fields_times n r h = (and_parts _ _ h).1

pub fields_turned : (r : Row) → fields_in (turned r) ≡ true → fields_in r ≡ true
unfolding fields_in
fields_turned r h = h

-- how many parts there are
pub size_some : (r : Row) → 1 ≤ size r
unfolding size
size_some (one n) = omega arith
size_some (then r s) = omega arith
size_some (times n r) = omega arith
size_some (turned r) = omega arith
size_some (run a b) = omega arith

pub size_then : (r s : Row) → size (then r s) ≡ suc (size r + size s)
unfolding size
size_then r s = refl

pub size_times : (n : ℕ) (r : Row) → size (times n r) ≡ suc (size r)
unfolding size
size_times n r = refl

pub size_turned : (r : Row) → size (turned r) ≡ suc (size r)
unfolding size
size_turned r = refl

-- what is small is made of what is small
pub small_then : (r s : Row) → Small (then r s) → Small r × Small s
unfolding some_each fields_in size long
small_then r s h =
    let d = deep_then r s in (
      record { some = (and_parts _ _ h.some).0; fields = (and_parts _ _ h.fields).0; few = omega (arith, h.few); shallow = omega (arith, h.shallow); short = omega (arith, h.short) },
      record { some = (and_parts _ _ h.some).1; fields = (and_parts _ _ h.fields).1; few = omega (arith, h.few); shallow = omega (arith, h.shallow); short = omega (arith, h.short) },
    )

pub small_times : (n : ℕ) (r : Row) → Small (times n r) → Small r
unfolding some_each fields_in size long
small_times n r h =
    let p : 0 < n = ltb-true 0 n (and_parts _ _ h.some).0 in
    let q : long r ≤ n * long r = omega (arith, le-mul_of_pos_right (long r) p, mul_comm (long r) n) in
    record { some = (and_parts _ _ h.some).1; fields = (and_parts _ _ h.fields).1; few = omega (arith, h.few); shallow = omega (arith, h.shallow, deep_times n r); short = omega (arith, h.short) }

pub small_turned : (r : Row) → Small (turned r) → Small r
unfolding some_each fields_in size long
small_turned r h = record { some = h.some; fields = h.fields; few = omega (arith, h.few); shallow = omega (arith, h.shallow, deep_turned r); short = h.short }

-- a good row, with numbers of four bytes, is small, and its numbers are below the limit
pub good_small : (m : ℕ) (r : Row) → good_row m r ≡ true → fields_in r ≡ true → Small r
good_small m r g f =
    let p : ((below m r && some_each r) ≡ true) × (((leb (size r) 256 && leb (deep r) 32) && leb (long r) 16777216) ≡ true) = and_parts _ _ g in
    let q : ((leb (size r) 256 && leb (deep r) 32) ≡ true) × (leb (long r) 16777216 ≡ true) = and_parts _ _ p.1 in
    let s : (leb (size r) 256 ≡ true) × (leb (deep r) 32 ≡ true) = and_parts _ _ q.0 in
    record {
      some = (and_parts (below m r) (some_each r) p.0).1;
      fields = f;
      few = leb-true (size r) 256 s.0;
      shallow = leb-true (deep r) 32 s.1;
      short = leb-true (long r) 16777216 q.1;
    }

pub good_below : (m : ℕ) (r : Row) → good_row m r ≡ true → below m r ≡ true
good_below m r g = (and_parts (below m r) (some_each r) (and_parts _ _ g).0).0

-- a row that bytes can carry
pub carried_fields : (r : Row) → carried r ≡ true → fields_in r ≡ true
carried_fields r c = (and_parts (fields_in r) _ c).0

pub carried_size : (r : Row) → carried r ≡ true → size r ≤ 1024
carried_size r c = leb-true (size r) 1024 (and_parts _ _ (and_parts (fields_in r) _ c).1).0

pub carried_deep : (r : Row) → carried r ≡ true → deep r < 256
carried_deep r c = ltb-true (deep r) 256 (and_parts (leb (size r) 1024) _ (and_parts (fields_in r) _ c).1).1

-- a row that bytes carry, and that is good, is small
pub taken_small : (m : ℕ) (r : Row) → good_row m r ≡ true → carried r ≡ true → Small r
taken_small m r g c = good_small m r g (carried_fields r c)

-- a number alone
pub small_one : (n : ℕ) → n < 4294967296 → Small (one n)
unfolding some_each fields_in size deep long
small_one n h = record { some = refl; fields = lt-ltb n 4294967296 h; few = omega arith; shallow = omega arith; short = omega arith }
