-- Laws of what is found about rows.
use Rattle.std.proofs.Common.{◌≡◌, ℕ, zero, suc, ◌+◌, ◌-◌, ◌*◌, ◌<◌, ◌≤◌, max, Bool, true, false, ◌&&◌, ltb, leb, ◌⊎◌, Some, None, Option, sym, refl, ap, ◌∙◌, inl, inr, suc-mul, arith}
use Rattle.std.proofs.lemmas.Bool.{le-leb, le-ltb, leb-true, ltb-true, lt-ltb, and_parts, and_from, and_left, and_right}
use Rattle.std.proofs.lemmas.Bool.Decides.{nat_tests}
use Rattle.weave.specs.Rows.{Row, one, then, times, turned, run, long, size, deep, below, some_each}
use Rattle.weave.specs.Calls.{good_row}
use Rattle.stored.specs.Measures.{Measures, fits, Within}
use Rattle.stored.specs.declared.measured.Measured.{Measured}

-- a row is at most as deep as it has parts
pub deep_size : (r : Row) → deep r ≤ size r
unfolding deep size
deep_size (one n) = omega arith
deep_size (then r s) = let a = deep_size r in let b = deep_size s in grind (arith, nat_tests)
deep_size (times n r) = omega (arith, deep_size r)
deep_size (turned r) = omega (arith, deep_size r)
deep_size (run a b) = omega arith

-- a row of such a size that has just numbers below the limit, none repeated no times
pub measured : (m : ℕ) (r : Row) (p d n : ℕ) (o : Option Measured) → (below m r && some_each r) ≡ true → size r ≡ p → deep r ≡ d → long r ≡ n → Within p d n o → Measures m r o
measured m r p d n (Some x) b ep ed en w = (and_from _ _ b (rw (ep, ed, en) w.0), w.1 ∙ sym ep, w.2 ∙ sym ed, w.3 ∙ sym en)
measured m r p d n None b ep ed en w = and_right (below m r && some_each r) _ (rw (ep, ed, en) w)

-- a good row is in its limits
pub record Good (m : ℕ) (r : Row) : Type 0 where
  pub numbers : below m r ≡ true
  pub some : some_each r ≡ true
  pub few : size r ≤ 256
  pub shallow : deep r ≤ 32
  pub short : long r ≤ 16777216

good : (m : ℕ) (r : Row) → good_row m r ≡ true → Good m r
good m r e =
    let a = and_parts (below m r && some_each r) (fits (size r) (deep r) (long r)) e in
    let b = and_parts (below m r) (some_each r) a.0 in
    let c = and_parts (leb (size r) 256 && leb (deep r) 32) (leb (long r) 16777216) a.1 in
    let d = and_parts (leb (size r) 256) (leb (deep r) 32) c.0 in
    record { numbers = b.0; some = b.1; few = leb-true _ _ d.0; shallow = leb-true _ _ d.1; short = leb-true _ _ c.1 }

is_good : (m : ℕ) (r : Row) → Good m r → good_row m r ≡ true
is_good m r g =
    and_from _ _ (and_from _ _ g.numbers g.some) (and_from _ _ (and_from _ _ (le-leb _ _ g.few) (le-leb _ _ g.shallow)) (le-leb _ _ g.short))

-- a row that has a row in it that is not good is not good
not_good : (m : ℕ) (p r : Row) → (Good m r → Good m p) → good_row m p ≡ false → good_row m r ≡ false
not_good m p r f e = go (good_row m r) refl
  where
    go : (b : Bool) → good_row m r ≡ b → b ≡ false
    go true h = let z = is_good m p (f (good m r h)) in cc
    go false h = refl

deep_max : (r s : Row) → deep (then r s) ≡ 1 + max (deep r) (deep s)
unfolding deep
deep_max r s = grind (arith, nat_tests)

then_good : (m : ℕ) (p q : Row) → Good m (then p q) → Good m p × Good m q
unfolding below some_each size long
then_good m p q g =
    let d = deep_max p q in
    let b = and_parts (below m p) (below m q) g.numbers in
    let s = and_parts (some_each p) (some_each q) g.some in (
      record { numbers = b.0; some = s.0; few = omega (arith, g.few); shallow = omega (arith, g.shallow); short = omega (arith, g.short) },
      record { numbers = b.1; some = s.1; few = omega (arith, g.few); shallow = omega (arith, g.shallow); short = omega (arith, g.short) },
    )

longer : (n l : ℕ) → 0 < n → l ≤ n * l
longer zero l h = absurd (omega arith)
longer (suc n) l h = omega (arith, suc-mul n l)

times_good : (m n : ℕ) (p : Row) → Good m (times n p) → (0 < n) × Good m p
unfolding below some_each size deep long
times_good m n p g =
    let s = and_parts (ltb 0 n) (some_each p) g.some in
    let h = ltb-true 0 n s.0 in
    (h, record { numbers = g.numbers; some = s.1; few = omega (arith, g.few); shallow = omega (arith, g.shallow); short = omega (arith, g.short, longer n (long p) h) })

turned_good : (m : ℕ) (p : Row) → Good m (turned p) → Good m p
unfolding below some_each size deep long
turned_good m p g = record { numbers = g.numbers; some = g.some; few = omega (arith, g.few); shallow = omega (arith, g.shallow); short = g.short }

-- a run
pub run_outside : (m a b : ℕ) → (m ≤ a) ⊎ ((a < m) × (m ≤ b)) → good_row m (run a b) ≡ false
unfolding below some_each
run_outside m a b (inl h) = rw (le-ltb a m h)
run_outside m a b (inr h) = rw (lt-ltb a m h.0, le-ltb b m h.1)

pub run_measured : (m a b n : ℕ) (o : Option Measured) → a < m → b < m → n ≡ a - b + (b - a) + 1 → Within 1 1 n o → Measures m (run a b) o
unfolding below some_each size deep long
run_measured m a b n o ha hb e w = measured m (run a b) 1 1 n o (rw (lt-ltb a m ha, lt-ltb b m hb)) refl refl (omega (arith, e)) w

-- a number alone is a run to itself
pub one_measured : (m n : ℕ) (o : Option Measured) → Measures m (run n n) o → Measures m (one n) o
unfolding below some_each size deep long
one_measured m n (Some x) h =
    let g = good m (run n n) h.0 in
    let b = and_parts (ltb n m) (ltb n m) g.numbers in
    (is_good m (one n) (record { numbers = b.0; some = refl; few = omega arith; shallow = omega arith; short = omega arith }), h.1, h.2, omega (arith, h.3))
one_measured m n None h =
    not_good m (run n n) (one n) (λ g. record { numbers = and_from _ _ g.numbers g.numbers; some = refl; few = omega arith; shallow = omega arith; short = omega arith }) h

-- a row, and then another
pub then_measured : (m : ℕ) (p q : Row) (x y : Measured) (d : ℕ) (o : Option Measured) → Measures m p (Some x) → Measures m q (Some y) → d ≡ max x.depth y.depth →
    Within (1 + x.parts + y.parts) (1 + d) (x.numbers + y.numbers) o → Measures m (then p q) o
unfolding below some_each size long
then_measured m p q x y d o s t e w =
    let g = good m p s.0 in
    let h = good m q t.0 in
    measured m (then p q) (1 + x.parts + y.parts) (1 + d) (x.numbers + y.numbers) o (and_from _ _ (and_from _ _ g.numbers h.numbers) (and_from _ _ g.some h.some))
    (omega (arith, s.1, t.1)) (omega (arith, deep_max p q, s.2, t.2, e)) (omega (arith, s.3, t.3)) w

pub then_first : (m : ℕ) (p q : Row) → good_row m p ≡ false → good_row m (then p q) ≡ false
then_first m p q e = not_good m p (then p q) (λ g. (then_good m p q g).0) e

pub then_next : (m : ℕ) (p q : Row) → good_row m q ≡ false → good_row m (then p q) ≡ false
then_next m p q e = not_good m q (then p q) (λ g. (then_good m p q g).1) e

-- a row so many times
pub times_measured : (m n : ℕ) (p : Row) (x : Measured) (o : Option Measured) → 0 < n → Measures m p (Some x) → Within (1 + x.parts) (1 + x.depth) (n * x.numbers) o → Measures m (times n p) o
unfolding below some_each size deep long
times_measured m n p x o h s w =
    let g = good m p s.0 in
    measured m (times n p) (1 + x.parts) (1 + x.depth) (n * x.numbers) o (and_from _ _ g.numbers (and_from _ _ (lt-ltb 0 n h) g.some)) (omega (arith, s.1)) (omega (arith, s.2)) (ap (λ (k : ℕ). n * k) (sym s.3)) w

pub times_none : (m : ℕ) (p : Row) → good_row m (times 0 p) ≡ false
unfolding some_each
times_none m p = and_left _ _ (and_right (below m (times 0 p)) false refl)

pub times_not : (m n : ℕ) (p : Row) → good_row m p ≡ false → good_row m (times n p) ≡ false
times_not m n p e = not_good m p (times n p) (λ g. (times_good m n p g).1) e

-- a row from its end
pub turned_measured : (m : ℕ) (p : Row) (x : Measured) (o : Option Measured) → Measures m p (Some x) → Within (1 + x.parts) (1 + x.depth) x.numbers o → Measures m (turned p) o
unfolding below some_each size deep long
turned_measured m p x o s w = let g = good m p s.0 in measured m (turned p) (1 + x.parts) (1 + x.depth) x.numbers o (and_from _ _ g.numbers g.some) (omega (arith, s.1)) (omega (arith, s.2)) (sym s.3) w

pub turned_not : (m : ℕ) (p : Row) → good_row m p ≡ false → good_row m (turned p) ≡ false
turned_not m p e = not_good m p (turned p) (turned_good m p) e
