use Rattle.sets.proofs.Drafts.{uses_of}
use Rattle.tieup.proofs.TreadlesLines.in_use.Goals as goal

pub returns : goal.returns
returns c = λ d w. (uses_of d c.args.used w).treadles
