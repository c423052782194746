-- Which words are a draft's.
use Rattle.std.specs.Prelude.{◌≡◌, ℕ, ◌≤◌, true, List, length}
use Rattle.weave.specs.Calls.{good_row}
use Rattle.rows.specs.Rows.{row_in}
use Rattle.rows.specs.declared.lent_row.LentRow.{LentRow}

-- the rows are good ones, of up to 64 shafts and of as many treadles as there are words of ties
pub record Good (threading treadling : LentRow) (ties : List ℕ) : Type 0 where
  pub shafts : good_row 64 (row_in threading) ≡ true
  pub treadles : good_row (length ties) (row_in treadling) ≡ true
  pub few : length ties ≤ 64
