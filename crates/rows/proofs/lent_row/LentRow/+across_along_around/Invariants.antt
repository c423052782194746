use Rattle.std.proofs.Common.{◌+◌, ◌*◌}
use Rattle.weave.specs.Rows.{size}
use Rattle.rows.specs.Rows.{row_in}
use Rattle.rows.proofs.lent_row.LentRow.+across_along_around.Given as goal

abbrev pub decreases-along : goal.decreases-along
decreases-along l = 2 * size (row_in l.self)

abbrev pub decreases-across : goal.decreases-across
decreases-across l = 2 * (size (row_in l.self) + size (row_in l.far)) + 1

abbrev pub decreases-around : goal.decreases-around
decreases-around l = 2 * size (row_in l.self) + 1
