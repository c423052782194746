-- And these can be had of used shafts and treadles only.
use Rattle.laws.proofs.Layers.{by_used_shafts}
use Rattle.laws.proofs.by_used_shafts.Goals as goal

pub returns : goal.returns
returns c = by_used_shafts
