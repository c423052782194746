use Rattle.encoding.proofs.Numbers.{TakenSo}
use Rattle.wire.proofs.take_numbers.Given as goal

abbrev pub invariant-loop-n : goal.invariant-loop-n
invariant-loop-n g l = TakenSo g.row.N l.n-index l.n-items l.bytes l.left
