-- What was done and undone leaves the draft as it was.
use Rattle.laws.proofs.Desk.{undone}
use Rattle.laws.proofs.undone.Goals as goal

pub returns : goal.returns
returns c = undone
