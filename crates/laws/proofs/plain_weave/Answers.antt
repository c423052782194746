-- Plain weave.
use Rattle.laws.proofs.Small.{plain_weave}
use Rattle.laws.proofs.plain_weave.Goals as goal

pub returns : goal.returns
returns c = plain_weave
