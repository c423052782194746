-- A row's tokens are read as that row.
use Rattle.std.proofs.Common.{◌≡◌, ℕ, zero, suc, ◌+◌, ◌-◌, ◌/◌, ◌<◌, ◌≤◌, Bool, true, false, cond, ltb, leb, List, [], ◌∷◌, ◌++◌, sym, refl, ◌∙◌, append_assoc, sub-one, arith}
use Rattle.std.proofs.lemmas.List.{append-nil}
use Rattle.std.proofs.lemmas.Bool.{leb-true, leb-false, ltb-true, lt-ltb}
use Rattle.weave.specs.Rows.{Row, one, then, times, turned, run, deep, pick}
use Rattle.tokens.specs.declared.Token.{Token}
use Rattle.tokens.specs.declared.Token.TheVariants.{Number, Run, Times, Turned, Open, Close}
use Rattle.rowtext.specs.Rows.{items, evenly, is_join, grouped, row_tokens, count, got, around, second, halves, group, closed, item_in, row_in, alone, row_of}
use Rattle.rowtext.proofs.Counts.{many, Are, even_parts, many_even, items_then, items_some, single, several, row_are}

pub row_item : (d : ℕ) (ts : List Token) → 0 < d → row_in d 1 ts ≡ item_in (row_in (d - 1)) ts
unfolding row_in
row_item zero ts h = absurd (omega arith)
row_item (suc d) ts h = rw sub-one refl

pub row_halves : (d n : ℕ) (ts : List Token) → 0 < d → 2 ≤ n → row_in d n ts ≡ halves (row_in (d - 1)) n ts
unfolding row_in
row_halves zero n ts h two = absurd (omega arith)
row_halves (suc d) zero ts h two = absurd (omega arith)
row_halves (suc d) (suc zero) ts h two = absurd (omega arith)
row_halves (suc d) (suc (suc n)) ts h two = rw sub-one refl

-- how deep n items in parentheses may be
abbrev pub inside : ℕ → ℕ → ℕ
inside d n = cond (ltb 1 n) d (d - 1)

pub group_is : (d n : ℕ) (ts : List Token) → 0 < d → group (row_in (d - 1)) n ts ≡ row_in (inside d n) n ts
group_is d n ts h = go (ltb 1 n) refl
  where
    go : (b : Bool) → ltb 1 n ≡ b → cond b (halves (row_in (d - 1)) n ts) (row_in (d - 1) n ts) ≡ row_in (cond b d (d - 1)) n ts
    go true e = sym (row_halves d n ts h (ltb-true 1 n e))
    go false e = refl

picked : (b : Bool) (x y d : ℕ) → leb x y ≡ b → pick b y x ≤ d → (x ≤ d) × (y ≤ d)
picked true x y d e h = let k = leb-true x y e in (omega arith, omega arith)
picked false x y d e h = let k = leb-false x y e in (omega arith, omega arith)

-- a join is deeper than both its rows
pub deep_parts : (r s : Row) (d : ℕ) → deep (then r s) ≤ d → (0 < d) × (deep r ≤ d - 1) × (deep s ≤ d - 1)
unfolding deep
deep_parts r s d h =
    let p = picked (leb (deep r) (deep s)) (deep r) (deep s) (pick (leb (deep r) (deep s)) (deep s) (deep r)) refl (omega arith) in
    (omega arith, omega (arith, p.0), omega (arith, p.1))

pub deep_some : (r : Row) → 0 < deep r
unfolding deep
deep_some (one n) = omega arith
deep_some (then r s) = omega arith
deep_some (times n r) = omega arith
deep_some (turned r) = omega arith
deep_some (run a b) = omega arith

-- r is read from xs, as m items, where there is so much depth
abbrev Back : Row → List Token → ℕ → ℕ → Type 0
Back r xs m d = (ts : List Token) → row_in d m (xs ++ ts) ≡ got r ts

halves_back : (r s : Row) (xs ys : List Token) (m n d : ℕ) → 0 < d → 0 < n → n ≤ m → m ≤ suc n → Back r xs m (d - 1) → Back s ys n (d - 1) → Back (then r s) (xs ++ ys) (m + n) d
unfolding second around
halves_back r s xs ys m n d hd hn le ge f g ts =
    let b : (m + n) / 2 ≡ n = omega arith in
    let a : (m + n) - n ≡ m = omega arith in
    rw append_assoc (row_halves d (m + n) (xs ++ (ys ++ ts)) hd (omega arith) ∙ rw (b, a, f (ys ++ ts), g ts) refl)

grouped_back : (r : Row) (b : Bool) (xs : List Token) (m d : ℕ) → Are xs m → (b ≡ false → m ≡ 1) → (b ≡ true → 2 ≤ m) → 0 < d → Back r xs m d → Back r (grouped b xs) 1 d
unfolding item_in closed count
grouped_back r true xs m d h lone more hd f ts =
    row_item d (Open ∷ ((xs ++ (Close ∷ [])) ++ ts)) hd
    ∙ rw (append_assoc xs (Close ∷ []) ts, h 0 (Close ∷ ts))
    (let e : m + 0 ≡ m = omega arith in
    rw (e, group_is d m (xs ++ (Close ∷ ts)) hd, lt-ltb 1 m (more refl), f (Close ∷ ts)) refl)
grouped_back r false xs m d h lone more hd f ts = rw (lone refl) at (f ts)

group_back : (r : Row) (d : ℕ) → deep r ≤ d → Back r (row_tokens r) (many r) d → Back r (grouped (is_join r) (row_tokens r)) 1 d
group_back r d h f = grouped_back r (is_join r) (row_tokens r) (many r) d (row_are r) (single r) (several r) (omega (arith, deep_some r)) f

then_back : (r s : Row) (b : Bool) (d : ℕ) → evenly (then r s) ≡ b → deep (then r s) ≤ d →
    ((d : ℕ) → deep r ≤ d → Back r (row_tokens r) (many r) d) → ((d : ℕ) → deep s ≤ d → Back s (row_tokens s) (many s) d) →
    Back (then r s) (cond b (row_tokens r ++ row_tokens s) (grouped (is_join r) (row_tokens r) ++ grouped (is_join s) (row_tokens s))) (cond b (items (then r s)) 2) d
then_back r s true d e h f g =
    let p = even_parts r s e in
    let q = deep_parts r s d h in
    rw (items_then r s)
    (halves_back r s (row_tokens r) (row_tokens s) (items r) (items s) d q.0 (items_some s) p.2 p.3
    (rw (many_even r p.0) at (f (d - 1) q.1)) (rw (many_even s p.1) at (g (d - 1) q.2)))
then_back r s false d e h f g =
    let q = deep_parts r s d h in
    halves_back r s (grouped (is_join r) (row_tokens r)) (grouped (is_join s) (row_tokens s)) 1 1 d q.0 (omega arith) (omega arith) (omega arith)
    (group_back r (d - 1) q.1 (f (d - 1) q.1)) (group_back s (d - 1) q.2 (g (d - 1) q.2))

row_back : (r : Row) (d : ℕ) → deep r ≤ d → Back r (row_tokens r) (many r) d
unfolding row_tokens deep item_in around is_join
row_back (one n) d h ts = rw (single (one n) refl) (row_item d (Number n ∷ ts) (omega arith))
row_back (then r s) d h ts = then_back r s (evenly (then r s)) d refl h (row_back r) (row_back s) ts
row_back (times n r) d h ts =
    rw (single (times n r) refl)
    (row_item d (Times n ∷ (grouped (is_join r) (row_tokens r) ++ ts)) (omega arith) ∙ rw (group_back r (d - 1) (omega arith) (row_back r (d - 1) (omega arith)) ts) refl)
row_back (turned r) d h ts =
    rw (single (turned r) refl)
    (row_item d (Turned ∷ (grouped (is_join r) (row_tokens r) ++ ts)) (omega arith) ∙ rw (group_back r (d - 1) (omega arith) (row_back r (d - 1) (omega arith)) ts) refl)
row_back (run a b) d h ts = rw (single (run a b) refl) (row_item d (Run a b ∷ ts) (omega arith))

pub tokens_row_back : (r : Row) → deep r < 256 → row_of (row_tokens r) ≡ got r []
unfolding row_of alone count
tokens_row_back r h =
    let c : count 0 (row_tokens r) ≡ many r = (rw append-nil at (row_are r 0 [])) ∙ omega arith in
    let b : row_in 255 (many r) (row_tokens r) ≡ got r [] = rw append-nil at (row_back r 255 (omega arith) []) in
    rw (c, b) refl
