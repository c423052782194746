use Rattle.std.proofs.Common.{◌≤◌, ◌+◌, length, arith}
use Rattle.encoding.proofs.Calls.{first_is, first_far}
use Rattle.wire.specs.Calls.{call_of}
use Rattle.wire.proofs.read_call.Goals as goal

far : (c : goal.Then-not-is_empty) → (length c.in_ok-call.rest.now ≤ length c.args.bytes.now) × (length c.args.bytes.now ≤ length c.in_ok-call.rest.now + 9217)
far c =
    first_far c.args.bytes.now (call_of c.in_ok-call.call) c.in_ok-call.rest.now
    (first_is c.args.bytes.now (call_of c.in_ok-call.call) c.in_ok-call.rest.now (λ i. omega (arith, c.type_inv.bytes i)) c.in_ok-call.ensures.0)

pub overflow_sub-result : goal.overflow_sub-result
overflow_sub-result c = (far c).0

pub overflow_cast-result : goal.overflow_cast-result
overflow_cast-result c = let h = far c in omega arith
