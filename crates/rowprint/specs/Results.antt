-- What functions return, in the words of the definitions.
use Rattle.std.specs.Prelude.{◌≡◌, ℕ, suc, ◌+◌, ◌<◌, ◌≤◌, true, ◌||◌, List, ◌++◌, length, Some, None, Ok, Err, Option, Result, ◌==◌}
use Rattle.std.specs.Bool.{then_some}
use Rattle.std.specs.Borrow.{Bor}
use Rattle.weave.specs.Rows.{Row, deep}
use Rattle.weave.specs.Promise.{fields_in}
use Rattle.encoding.specs.Rows.{row_bytes}
use Rattle.tokens.specs.declared.TextError.{TextError}
use Rattle.tokens.specs.declared.Token.{Token}
use Rattle.tokens.specs.Results.{UnlessMemory}
use Rattle.rowtext.specs.Rows.{items, evenly}
use Rattle.rowtext.specs.Round.{row_text}

-- how many items, and none where joins are not in halves
abbrev pub items_of : Option ℕ → ℕ
items_of (Some n) = n
items_of None = 0

-- how many items a row has, if its joins are in halves
abbrev pub even_items : Row → Option ℕ
even_items r = then_some (evenly r) (items r)

-- and a join of two rows, from theirs
abbrev pub joined_items : Option ℕ → Option ℕ → Option ℕ
joined_items (Some m) (Some n) = then_some (m == n || m == suc n) (m + n)
joined_items (Some m) None = None
joined_items None n = None

-- no more items than bytes
abbrev pub Few : Option (Option ℕ × Bor (List ℕ)) → ℕ → Type 0
Few (Some v) n = items_of v.0 + length v.1.now ≤ n
Few None n = Unit {0}

-- how many items a row r has, if its joins are in halves, and what comes after it
abbrev pub Shaped : Option (Option ℕ × Bor (List ℕ)) → Row → List ℕ → Type 0
Shaped (Some v) r rest = (v.0 ≡ even_items r) × (v.1.now ≡ rest)
Shaped None r rest = ⊥

-- tokens ts were put behind others, and rest is left; or there was no memory
abbrev pub Printed : Result (Bor (List ℕ)) TextError → List ℕ → List Token → List Token → List Token → Type 0
Printed (Ok left) rest old new ts = (left.now ≡ rest) × (new ≡ old ++ ts)
Printed (Err e) rest old new ts = UnlessMemory e ⊥

-- a row at most d deep that bs begin with
pub record Begins (bs rest : List ℕ) (d : ℕ) : Type 0 where
  pub row : Row
  pub bytes : bs ≡ row_bytes row ++ rest
  pub fields : fields_in row ≡ true
  pub shallow : deep row ≤ d

-- where something is left, the bytes before it are a row
abbrev pub Found : Result (Bor (List ℕ)) TextError → List ℕ → ℕ → Type 0
Found (Ok left) bs d = Begins bs left.now d
Found (Err e) bs d = Unit {0}

-- bs are a row, and text is its text
pub record IsPrinted (bs text : List ℕ) : Type 0 where
  pub row : Row
  pub bytes : bs ≡ row_bytes row
  pub fields : fields_in row ≡ true
  pub shallow : deep row < 256
  pub is : text ≡ row_text row

-- bs are no row of numbers of four bytes that is less than 256 deep
abbrev pub NoRow : List ℕ → Type 0
NoRow bs = (r : Row) → bs ≡ row_bytes r → fields_in r ≡ true → deep r < 256 → ⊥
