use Rattle.std.proofs.Common.{arith}
use Rattle.layering.proofs.Lines.{bit_line}
use Rattle.layers.proofs.in_line.Goals as goal

pub returns : goal.returns
returns c = rw (c.from.ensures, c.from-2.ensures) (bit_line c.args.shafts c.args.treadles (omega arith) (omega arith))
