-- The double cloth that one tie less joins.
use Rattle.laws.proofs.Small.{joined_cloth}
use Rattle.laws.proofs.joined_cloth.Goals as goal

pub returns : goal.returns
returns c = joined_cloth
