use Rattle.encoding.proofs.Answers.{narrow_over}
use Rattle.encoding.proofs.narrow_sets.Goals as goal

pub returns : goal.returns
returns c = narrow_over
