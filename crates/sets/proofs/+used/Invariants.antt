use Rattle.weave.specs.Rows.{size}
use Rattle.rows.specs.Rows.{row_in}
use Rattle.sets.proofs.+used.Given as goal

abbrev pub decreases-used : goal.decreases-used
decreases-used l = size (row_in l.row)
