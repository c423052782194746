use Rattle.std.proofs.Common.{◌≡◌, ◌∷◌, Some, Ok, ℕ, sym, ap, ◌∙◌, arith}
use Rattle.encoding.specs.Kinds.{call_byte}
use Rattle.encoding.proofs.Calls.{first_is}
use Rattle.encoding.proofs.Calling.{first_cons}
use Rattle.wire.specs.Calls.{call_of}
use Rattle.wire.proofs.first_call.Goals as goal

pub returns-in-Ok : goal.returns-in-Ok
returns-in-Ok c =
    let split : c.split_first.result ≡ Some (c.in_ok-kind.kind, c.in_ok-kind.rest) = grind arith in
    let front : c.args.bytes.now ≡ c.in_ok-kind.kind.now ∷ c.in_ok-kind.rest.now = (rw split at c.split_first.ensures.cases).0 in
    let found : c.try_from.result ≡ Ok c.in_ok-kind-2.kind = grind arith in
    let is : call_byte c.in_ok-kind-2.kind ≡ c.in_ok-kind.kind.now = rw found at c.try_from.ensures in
    let h = c.in-Ok.ensures in
    let e = first_cons (call_byte c.in_ok-kind-2.kind) c.args.bytes.now c.in_ok-kind.rest.now (front ∙ ap (λ (x : ℕ). x ∷ c.in_ok-kind.rest.now) (sym is)) ∙ h.0 in
    (e, (first_is c.args.bytes.now (call_of c.in-Ok.first.0) c.in-Ok.first.1.now (λ i. omega (arith, c.type_inv.bytes i)) e).1, h.1)
