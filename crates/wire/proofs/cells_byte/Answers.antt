use Rattle.std.proofs.Common.{ℕ, ◌-◌, ◌*◌, ◌%◌, ◌<◌, get_or, sym, ap, ◌∙◌, mod-eq_of_lt, arith, rules}
use Rattle.std.proofs.lemmas.Nat.{one_shl}
use Rattle.encoding.proofs.Bits.{octet_all, octet_some}
use Rattle.wire.proofs.cells_byte.Goals as goal

pub returns-then-used-lt8 : goal.returns-then-used-lt8
returns-then-used-lt8 c =
    ap (λ (k : ℕ). get_or c.args.bits.now c.args.i 0 % k) (one_shl (c.args.count - 8 * c.args.i) 8 c.if-used-lt8.true)
    ∙ sym (octet_some c.args.bits.now c.args.count c.args.i (omega arith))

pub returns-else-used-lt8 : goal.returns-else-used-lt8
returns-else-used-lt8 c =
    let h : get_or c.args.bits.now c.args.i 0 < 256 = search (rules, c.type_inv.bits) in
    sym (octet_all c.args.bits.now c.args.count c.args.i (omega arith) ∙ mod-eq_of_lt h)
