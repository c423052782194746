use Rattle.std.proofs.Common.{drop, vec_items}
use Rattle.calltext.proofs.Numbers.{Putting}
use Rattle.calltext.proofs.put_numbers.Given as goal

abbrev pub invariant-loop-token : goal.invariant-loop-token
invariant-loop-token l = Putting l.tokens (drop l.token-index l.tokens) (vec_items l.initial.bytes) (vec_items l.bytes)
