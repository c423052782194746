-- Bytes that are a row's, and then others.
use Rattle.std.specs.Prelude.{◌≡◌, ℕ, true, List, ◌++◌}
use Rattle.weave.specs.Rows.{Row}
use Rattle.weave.specs.Promise.{fields_in}
use Rattle.encoding.specs.Rows.{row_bytes}

-- bytes that are a row's, whose numbers have four bytes, and then others
pub record Followed (r : Row) (rest bs : List ℕ) : Type 0 where
  pub fields : fields_in r ≡ true
  pub is : bs ≡ row_bytes r ++ rest
