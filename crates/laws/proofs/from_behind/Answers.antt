-- Seen from behind, floats of the face are those of the back, and what hung together does.
use Rattle.laws.proofs.Seen.{from_behind}
use Rattle.laws.proofs.from_behind.Goals as goal

pub returns : goal.returns
returns c = from_behind
