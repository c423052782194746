use Rattle.std.proofs.Common.{refl, arith}
use Rattle.cases.proofs.StoredRow.{row, row_written, row_small, row_size}
use Rattle.cases.proofs.rows_in_words.is_stored_in_the_middle.Goals as goal

pub store_row-requires : goal.store_row-requires
store_row-requires g c = (row, row_written _ refl, row_small, rw row_size (omega arith))
