use Rattle.std.proofs.Common.{map, drop, vec_items}
use Rattle.calltext.proofs.Numbers.{Tying}
use Rattle.calltext.proofs.each_tie.Given as goal

abbrev pub invariant-loop-token : goal.invariant-loop-token
invariant-loop-token l = Tying l.treadle l.shafts (drop l.token-index l.shafts) (map vec_items (vec_items l.calls))
