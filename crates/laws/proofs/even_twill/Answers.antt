-- The twill that goes two over and two under.
use Rattle.laws.proofs.Small.{even_twill}
use Rattle.laws.proofs.even_twill.Goals as goal

pub returns : goal.returns
returns c = even_twill
