use Rattle.std.proofs.Common.{arith}
use Rattle.encoding.proofs.Bytes.{call_cast}
use Rattle.encoding.proofs.Writing.{mid_placed, byte_part}
use Rattle.wire.proofs.write_row.Goals as goal

pub returns : goal.returns
returns c = (
  omega arith,
  omega arith,
  rw (← call_cast c.args.kind) (byte_part c.args.out.now _ c.args.row.now (omega arith) _ (mid_placed 1 _ _ _ c.args.row.now c.copy_from_slice.ensures.after (omega arith))),
)
