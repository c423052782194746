-- Two plain cloths, one over the other.
use Rattle.laws.proofs.Small.{double_cloth}
use Rattle.laws.proofs.double_cloth.Goals as goal

pub returns : goal.returns
returns c = double_cloth
