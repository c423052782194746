use Rattle.layering.proofs.Lines.{Filled, joined}
use Rattle.layers.proofs.join_by.Given as goal

-- those before i are joined
abbrev pub invariant-loop-set : goal.invariant-loop-set
invariant-loop-set l = Filled (joined l.initial.sets l.way) l.initial.sets l.sets l.set-index
