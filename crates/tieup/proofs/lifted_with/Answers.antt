use Rattle.std.proofs.Common.{sym, ◌∙◌, arith}
use Rattle.std.proofs.lemmas.Bool.{lt-ltb}
use Rattle.sets.proofs.Members.{bit_others}
use Rattle.tieup.proofs.lifted_with.Goals as goal

pub returns-else-has : goal.returns-else-has
returns-else-has c = λ n h.
    rw (sym c.has.ensures ∙ c.if-has.false) (bit_others 64 c.args.lifted n (omega arith) ∙ rw (lt-ltb n 64 h))
