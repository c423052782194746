-- The row that lent words tell.
use Rattle.weave.specs.Rows.{Row}
use Rattle.rows.specs.Words.{row_of}
use Rattle.rows.specs.declared.lent_row.LentRow.{LentRow}

abbrev pub row_in : LentRow → Row
row_in l = row_of 32 l.words.now
