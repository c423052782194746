use Rattle.std.proofs.Common.{arith, rules}
use Rattle.encoding.specs.Answers.{octet, bits_in}
use Rattle.encoding.proofs.Writing.{filled_more, filled_placed}
use Rattle.encoding.proofs.Answers.{cells_written}
use Rattle.wire.proofs.put_cells.Goals as goal

pub loop-i-preserved : goal.loop-i-preserved
loop-i-preserved c = filled_more (octet (bits_in c.args.bits.now c.args.count)) c.loop-i.byte-items c.loop-i.i _ (search rules) c.cells_byte.ensures c.loop-i.invariant

pub returns : goal.returns
returns c =
    let p = cells_written c.args.out.now c.put_numbers-at.new.out _ c.args.bits.now c.args.count c.put_numbers-at.result c.div_ceil-size.result
    c.requires c.told-out c.put_numbers-at.ensures.bytes c.put_numbers-at.ensures.count (omega (arith, c.div_ceil-size.ensures))
    (filled_placed (octet (bits_in c.args.bits.now c.args.count)) _ c.loop-i.byte-items c.put_numbers-at.result _ c.div_ceil-size.result c.loop-i.i (search rules) (search rules) (search rules) (omega arith) c.loop-i.invariant) in
    record { count = p.0; bytes = p.1 }
