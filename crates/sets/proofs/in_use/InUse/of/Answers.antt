use Rattle.sets.proofs.Drafts.{treadling_low, uses_of}
use Rattle.sets.proofs.in_use.InUse.of.Goals as goal

pub used-requires-2 : goal.used-requires-2
used-requires-2 c = treadling_low c.args.draft

pub returns-clause-uses : goal.returns-clause-uses
returns-clause-uses c = λ d shows. uses_of d _ shows
