use Rattle.lent.specs.Bits.{bit}
use Rattle.runs.proofs.Bits.{Left}
use Rattle.runs.proofs.upward.Given as goal

abbrev pub invariant-loop-left : goal.invariant-loop-left
invariant-loop-left l = Left (bit l.set) l.from l.numbers l.width l.left l.front l.back l.longest

abbrev pub decreases-loop-left : goal.decreases-loop-left
decreases-loop-left l = l.width
