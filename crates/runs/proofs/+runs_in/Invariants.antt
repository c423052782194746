use Rattle.weave.specs.Rows.{size}
use Rattle.rows.specs.Rows.{row_in}
use Rattle.runs.proofs.+runs_in.Given as goal

abbrev pub decreases-runs_in : goal.decreases-runs_in
decreases-runs_in l = size (row_in l.row)
