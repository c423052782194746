use Rattle.std.proofs.Common.{sym, ◌∙◌, arith}
use Rattle.std.proofs.lemmas.Bool.{le-ltb}
use Rattle.lent.proofs.Bits.{bit_past}
use Rattle.sets.proofs.has.Goals as goal

pub returns-else-n-lt-BITS : goal.returns-else-n-lt-BITS
returns-else-n-lt-BITS c =
    le-ltb c.args.n 64 c.if-n-lt-BITS.false ∙ sym (bit_past 64 c.args.set c.args.n (omega arith) c.if-n-lt-BITS.false)
