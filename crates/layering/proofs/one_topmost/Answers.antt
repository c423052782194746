use Rattle.layering.proofs.Choice.{one_topmost}
use Rattle.layering.proofs.one_topmost.Goals as goal

pub returns : goal.returns
returns c = one_topmost
