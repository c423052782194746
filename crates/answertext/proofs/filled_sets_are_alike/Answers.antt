use Rattle.answertext.proofs.Telling.{filled_alike}
use Rattle.answertext.proofs.filled_sets_are_alike.Goals as goal

pub returns : goal.returns
returns c = filled_alike
