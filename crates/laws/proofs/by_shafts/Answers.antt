-- If any threads lie over all others, all those of some shafts and treadles do.
use Rattle.laws.proofs.Layers.{by_shafts_do}
use Rattle.laws.proofs.by_shafts.Goals as goal

pub returns : goal.returns
returns c = by_shafts_do
