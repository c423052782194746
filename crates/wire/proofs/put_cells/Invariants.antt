use Rattle.std.proofs.Common.{◌≡◌, map, take}
use Rattle.std.specs.List.{range_with_len}
use Rattle.encoding.specs.Answers.{octet, bits_in}
use Rattle.wire.proofs.put_cells.Given as goal

abbrev pub invariant-loop-i : goal.invariant-loop-i
invariant-loop-i l = take l.i l.byte-items ≡ map (octet (bits_in l.bits l.count)) (range_with_len 0 l.i)
