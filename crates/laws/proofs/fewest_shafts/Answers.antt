-- Whoever weaves the same cloth uses no fewer shafts and treadles than are told, and somebody uses just so many.
use Rattle.laws.proofs.Fewest.{fewest_shafts}
use Rattle.laws.proofs.fewest_shafts.Goals as goal

pub returns : goal.returns
returns c = fewest_shafts
