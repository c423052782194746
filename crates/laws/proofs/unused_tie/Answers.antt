-- A tie on a treadle that is never used, or of a shaft that no end is on, changes nothing that is told.
use Rattle.laws.proofs.Same.{unused_tie}
use Rattle.laws.proofs.unused_tie.Goals as goal

pub returns : goal.returns
returns c = unused_tie
