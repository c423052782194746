use Rattle.layering.proofs.Choice.{enough_rounds}
use Rattle.layering.proofs.enough_rounds.Goals as goal

pub returns : goal.returns
returns c = enough_rounds
