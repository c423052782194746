use Rattle.encoding.proofs.Places.{first_misfit}
use Rattle.encoding.proofs.first_misfit.Goals as goal

pub returns : goal.returns
returns c = first_misfit
