-- A call that is turned away changes nothing.
use Rattle.laws.proofs.Desk.{turned_away}
use Rattle.laws.proofs.turned_away.Goals as goal

pub returns : goal.returns
returns c = turned_away
