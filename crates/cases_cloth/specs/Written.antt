-- Which words are a row's.
use Rattle.std.specs.Prelude.{◌≡◌, ℕ, true, List, [], ◌++◌}
use Rattle.weave.specs.Rows.{Row}
use Rattle.weave.specs.Calls.{good_row}
use Rattle.weave.specs.Promise.{fields_in}
use Rattle.rows.specs.Words.{row_words}

-- a row that is good for so many numbers, and these words
pub record Written (m : ℕ) (r : Row) (ws : List ℕ) : Type 0 where
  pub good : good_row m r ≡ true
  pub fields : fields_in r ≡ true
  pub is : ws ≡ row_words r ++ []
