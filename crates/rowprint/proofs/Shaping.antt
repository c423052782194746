-- Rows by their outermost part: what is so of the rows in them.
use Rattle.std.proofs.Common.{◌≡◌, ℕ, suc, ◌+◌, ◌-◌, ◌≤◌, Bool, true, false, ◌&&◌, ◌||◌, eqb, Option, Some, refl, arith}
use Rattle.std.specs.Bool.{then_some}
use Rattle.std.proofs.lemmas.Bool.{and_parts}
use Rattle.weave.specs.Rows.{Row, one, then, times, turned, run, deep}
use Rattle.weave.specs.Promise.{field, fields_in}
use Rattle.rowtext.specs.Rows.{items, evenly}
use Rattle.rowprint.specs.Results.{even_items, joined_items}
use Rattle.rowtext.proofs.Rows.{deep_parts, deep_some}

pub too_deep : (r : Row) (d : ℕ) → d ≡ 0 → deep r ≤ d → ⊥
too_deep r d e h = omega (arith, deep_some r)

pub one_shape : (r : Row) (n : ℕ) → r ≡ one n → Some 1 ≡ even_items r
unfolding items evenly
one_shape r n e = rw e refl

pub run_shape : (r : Row) (a b : ℕ) → r ≡ run a b → Some 1 ≡ even_items r
unfolding items evenly
run_shape r a b e = rw e refl

pub times_shape : (r : Row) (n : ℕ) (a : Row) → r ≡ times n a → Some 1 ≡ even_items r
unfolding items evenly
times_shape r n a e = rw e refl

pub turned_shape : (r a : Row) → r ≡ turned a → Some 1 ≡ even_items r
unfolding items evenly
turned_shape r a e = rw e refl

joined : (f g : Bool) (m n : ℕ) → joined_items (then_some f m) (then_some g n) ≡ then_some ((f && g) && (eqb m n || eqb m (suc n))) (m + n)
joined true true m n = refl
joined true false m n = refl
joined false g m n = refl

pub then_shape : (r a b : Row) (x y z : Option ℕ) → r ≡ then a b → x ≡ even_items a → y ≡ even_items b → z ≡ joined_items x y → z ≡ even_items r
unfolding items evenly
then_shape r a b x y z e ex ey ez = rw (ez, e, ex, ey) (joined (evenly a) (evenly b) (items a) (items b))

-- the numbers in rows inside, and how deep these are
pub times_inside : (r : Row) (n : ℕ) (a : Row) (d : ℕ) → r ≡ times n a → fields_in r ≡ true → deep r ≤ d → (fields_in a ≡ true) × (deep a ≤ d - 1)
unfolding fields_in deep
times_inside r n a d e f h = let k : suc (deep a) ≤ d = rw e at h in ((and_parts (field n) (fields_in a) (rw e at f)).1, omega (arith, k))

pub turned_inside : (r a : Row) (d : ℕ) → r ≡ turned a → fields_in r ≡ true → deep r ≤ d → (fields_in a ≡ true) × (deep a ≤ d - 1)
unfolding fields_in deep
turned_inside r a d e f h = let k : suc (deep a) ≤ d = rw e at h in (rw e at f, omega (arith, k))

pub then_inside : (r a b : Row) (d : ℕ) → r ≡ then a b → fields_in r ≡ true → deep r ≤ d → (fields_in a ≡ true) × (deep a ≤ d - 1) × (fields_in b ≡ true) × (deep b ≤ d - 1)
unfolding fields_in
then_inside r a b d e f h =
    let p = and_parts (fields_in a) (fields_in b) (rw e at f) in
    let q = deep_parts a b d (rw e at h) in
    (p.0, q.1, p.1, q.2)
