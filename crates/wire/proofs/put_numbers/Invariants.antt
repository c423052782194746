use Rattle.std.proofs.Common.{◌≡◌, take}
use Rattle.encoding.specs.Numbers.{placed, fours}
use Rattle.wire.proofs.put_numbers.Given as goal

abbrev pub invariant-loop-i : goal.invariant-loop-i
invariant-loop-i l = l.out ≡ placed l.initial.out 1 (fours (take l.i l.numbers))
