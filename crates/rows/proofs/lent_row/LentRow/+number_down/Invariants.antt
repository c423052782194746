use Rattle.weave.specs.Rows.{size}
use Rattle.rows.specs.Rows.{row_in}
use Rattle.rows.proofs.lent_row.LentRow.+number_down.Given as goal

abbrev pub decreases-number_down : goal.decreases-number_down
decreases-number_down l = size (row_in l.self)
