use Rattle.std.proofs.Common.{◌≡◌}
use Rattle.encoding.specs.Answers.{bit}
use Rattle.picks.proofs.Packed.{Packing}
use Rattle.picks.proofs.pack.Given as goal

-- the shafts before this byte's are packed
abbrev pub invariant-loop-b : goal.invariant-loop-b
invariant-loop-b l = Packing (bit l.lifted) l.shafts l.b-iterator.iter.rest.now l.cells l.b-iterator.count × (l.b-iterator.iter.size ≡ 8)
