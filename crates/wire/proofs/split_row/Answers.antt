use Rattle.std.proofs.Common.{refl, arith}
use Rattle.encoding.proofs.Calling.{row_all}
use Rattle.wire.proofs.split_row.Goals as goal

pub returns : goal.returns
returns c = row_all c.args.bytes.now _ _ c.in_ok-rest.rest.now (λ i. omega (arith, c.type_inv.bytes i)) c.in_ok-rest.ensures refl
