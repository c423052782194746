use Rattle.desks.specs.Keepers.{LentDesk}
use Rattle.cases.proofs.desk_calls.answers.Given as goal

abbrev pub invariant-loop-pair : goal.invariant-loop-pair
invariant-loop-pair g l = LentDesk l.memory
