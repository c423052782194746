-- What stands at a place of a row is found by going down it.
use Rattle.weave.proofs.Rows.{at_place}
use Rattle.laws.proofs.at_place.Goals as goal

pub returns : goal.returns
returns c = at_place
