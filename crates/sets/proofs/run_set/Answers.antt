use Rattle.std.proofs.Common.{sym, ◌∙◌, arith}
use Rattle.sets.proofs.Numbers.{among_run, bit_span}
use Rattle.sets.proofs.run_set.Goals as goal

pub returns : goal.returns
returns c = λ n.
    bit_span c.min.result c.max.result n (omega arith) (omega arith)
    ∙ rw (c.min.ensures, c.max.ensures) (sym (among_run n c.args.from c.args.to))
