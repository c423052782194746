use Rattle.desks.proofs.Keeps.{follows}
use Rattle.desks.proofs.desk_follows.Goals as goal

pub returns : goal.returns
returns c = follows
