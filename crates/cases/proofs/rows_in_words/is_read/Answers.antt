use Rattle.std.proofs.Common.{refl, arith}
use Rattle.rows.proofs.Told.{is_row}
use Rattle.cases.proofs.StoredRow.{row, row_written, row_small, row_size, row_begins}
use Rattle.cases.proofs.rows_in_words.is_read.Goals as goal

pub store_row-requires : goal.store_row-requires
store_row-requires g c = (row, row_written _ refl, row_small, rw row_size (omega arith))

pub invariant_of-row : goal.invariant_of-row
invariant_of-row g c = record { begins = is_row row _ (row_begins _ _ (c.store_row.ensures.words row (row_written _ refl) row_small)) }
