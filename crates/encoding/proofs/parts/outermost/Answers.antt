use Rattle.std.proofs.Common.{arith, rules}
use Rattle.encoding.proofs.Heads.{opened_number, opened_two}
use Rattle.encoding.proofs.parts.outermost.Goals as goal

pub returns-in_ok-n-in-One : goal.returns-in_ok-n-in-One
returns-in_ok-n-in-One c =
    let g = c.in_ok-n-in-One.ensures in
    opened_number c.args.bytes.now _ 0 (λ i. omega (arith, c.type_inv.bytes i)) (search rules) _ _ g.0 g.1 g.2

pub returns-in_ok-n-in-Times : goal.returns-in_ok-n-in-Times
returns-in_ok-n-in-Times c =
    let g = c.in_ok-n-in-Times.ensures in
    opened_number c.args.bytes.now _ 2 (λ i. omega (arith, c.type_inv.bytes i)) (search rules) _ _ g.0 g.1 g.2

pub returns-in_ok-to-in-Run : goal.returns-in_ok-to-in-Run
returns-in_ok-to-in-Run c =
    let g = c.in_ok-from-in-Run.ensures in
    let h = c.in_ok-to-in-Run.ensures in
    opened_two c.args.bytes.now _ 4 (λ i. omega (arith, c.type_inv.bytes i)) (search rules) _ _ g.0 g.1 g.2 _ _ h.0 h.1 h.2
