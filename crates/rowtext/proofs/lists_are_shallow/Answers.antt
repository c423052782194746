use Rattle.rowtext.proofs.Lists.{lists_shallow}
use Rattle.rowtext.proofs.lists_are_shallow.Goals as goal

pub returns : goal.returns
returns c = lists_shallow
