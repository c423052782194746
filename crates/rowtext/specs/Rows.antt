-- Rows as tokens, written and read.
use Rattle.std.specs.Prelude.{ℕ, zero, suc, ◌+◌, ◌-◌, ◌/◌, Bool, true, false, cond, ◌&&◌, ◌||◌, List, [], ◌∷◌, ◌++◌, ◌==◌, nat_lt}
use Rattle.weave.specs.Rows.{Row, one, then, times, turned, run}
use Rattle.tokens.specs.declared.Token.{Token}
use Rattle.tokens.specs.declared.Token.TheVariants.{Number, Run, Times, Turned, Open, Close, Colon}

-- how many items a row has, where a join has those of both its rows
unfoldable pub items : Row → ℕ
items (one n) = 1
items (then r s) = items r + items s
items (times n r) = 1
items (turned r) = 1
items (run a b) = 1

-- whether all its joins are in halves, of which the first is the larger by at most one
unfoldable pub evenly : Row → Bool
evenly (one n) = true
evenly (then r s) = (evenly r && evenly s) && (items r == items s || items r == suc (items s))
evenly (times n r) = true
evenly (turned r) = true
evenly (run a b) = true

unfoldable pub is_join : Row → Bool
is_join (one n) = false
is_join (then r s) = true
is_join (times n r) = false
is_join (turned r) = false
is_join (run a b) = false

-- in parentheses, where it has to be one item
abbrev pub grouped : Bool → List Token → List Token
grouped true ts = Open ∷ (ts ++ (Close ∷ []))
grouped false ts = ts

-- the tokens of a row: joins in halves are written flat, any other join as two items
unfoldable pub row_tokens : Row → List Token
row_tokens (one n) = Number n ∷ []
row_tokens (then r s) = cond (evenly (then r s)) (row_tokens r ++ row_tokens s) (grouped (is_join r) (row_tokens r) ++ grouped (is_join s) (row_tokens s))
row_tokens (times n r) = Times n ∷ grouped (is_join r) (row_tokens r)
row_tokens (turned r) = Turned ∷ grouped (is_join r) (row_tokens r)
row_tokens (run a b) = Run a b ∷ []

-- what m items count for inside of d parentheses: nothing, if there are any
abbrev pub outside : ℕ → ℕ → ℕ
outside zero m = m
outside (suc d) m = 0

-- how many items there are up to the end, or to the parenthesis that closes, where d are open
unfoldable pub count : ℕ → List Token → ℕ
count d [] = 0
count d (Number n ∷ ts) = outside d 1 + count d ts
count d (Run a b ∷ ts) = outside d 1 + count d ts
count d (Times n ∷ ts) = count d ts
count d (Turned ∷ ts) = count d ts
count d (Open ∷ ts) = outside d 1 + count (suc d) ts
count zero (Close ∷ ts) = 0
count (suc d) (Close ∷ ts) = count d ts
count d (Colon ∷ ts) = count d ts

-- what comes of reading a row: the row, and the tokens after it
pub data Read : Type 0 where
  got : Row → List Token → Read
  bad : Read

-- a row around a row that was read
unfoldable pub around : (Row → Row) → Read → Read
around f (got r ts) = got (f r) ts
around f bad = bad

-- a second row, read by f, after a first
unfoldable pub second : (List Token → Read) → Read → Read
second f (got r ts) = around (then r) (f ts)
second f bad = bad

-- n items in two halves, each read by f
abbrev pub halves : (ℕ → List Token → Read) → ℕ → List Token → Read
halves f n ts = second (f (n / 2)) (f (n - n / 2) ts)

-- n items in parentheses: two halves, or one item, or none
abbrev pub group : (ℕ → List Token → Read) → ℕ → List Token → Read
group f n ts = cond (nat_lt 1 n) (halves f n ts) (f n ts)

-- a row after which a parenthesis closes
unfoldable pub closed : Read → Read
closed (got r []) = bad
closed (got r (Number n ∷ ts)) = bad
closed (got r (Run a b ∷ ts)) = bad
closed (got r (Times n ∷ ts)) = bad
closed (got r (Turned ∷ ts)) = bad
closed (got r (Open ∷ ts)) = bad
closed (got r (Close ∷ ts)) = got r ts
closed (got r (Colon ∷ ts)) = bad
closed bad = bad

-- an item; f reads rows of so many items
unfoldable pub item_in : (ℕ → List Token → Read) → List Token → Read
item_in f [] = bad
item_in f (Number n ∷ ts) = got (one n) ts
item_in f (Run a b ∷ ts) = got (run a b) ts
item_in f (Times n ∷ ts) = around (times n) (f 1 ts)
item_in f (Turned ∷ ts) = around turned (f 1 ts)
item_in f (Open ∷ ts) = closed (group f (count 0 ts) ts)
item_in f (Close ∷ ts) = bad
item_in f (Colon ∷ ts) = bad

-- a row of n items, joined in halves, at most d deep; parentheses around one item are one deeper too
unfoldable pub row_in : ℕ → ℕ → List Token → Read
row_in zero n ts = bad
row_in (suc d) zero ts = bad
row_in (suc d) (suc zero) ts = item_in (row_in d) ts
row_in (suc d) (suc (suc n)) ts = halves (row_in d) (suc (suc n)) ts

-- a row and nothing more
unfoldable pub alone : Read → Read
alone (got r []) = got r []
alone (got r (t ∷ ts)) = bad
alone bad = bad

-- the row that tokens are
unfoldable pub row_of : List Token → Read
row_of ts = alone (row_in 255 (count 0 ts) ts)
