use Rattle.weave.proofs.Rows.{as_long, at_place}
use Rattle.rows.proofs.Told.{told}
use Rattle.rows.proofs.rows_stand.Goals as goal

pub returns : goal.returns
returns c = record { long = as_long; place = at_place; told = told }
