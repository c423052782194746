use Rattle.std.proofs.Common.{◌≡◌, length}
use Rattle.cases_cloth.proofs.cloth.the_longest_chain.Given as goal

abbrev pub invariant-loop-t : goal.invariant-loop-t
invariant-loop-t g l = length l.lifted-items ≡ 64
