-- A row is as long as its numbers are many.
use Rattle.weave.proofs.Rows.{as_long}
use Rattle.laws.proofs.as_long.Goals as goal

pub returns : goal.returns
returns c = as_long
