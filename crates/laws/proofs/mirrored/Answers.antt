-- Threaded from the other side, floats are as long, and what hung together does.
use Rattle.laws.proofs.Seen.{from_other_side}
use Rattle.laws.proofs.mirrored.Goals as goal

pub returns : goal.returns
returns c = from_other_side
