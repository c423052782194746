use Rattle.std.proofs.Common.{sym, arith}
use Rattle.std.proofs.lemmas.Int.{ints}
use Rattle.rows.proofs.Parts.{run_long, run_up, run_down}
use Rattle.rows.proofs.numbers.in_run.Goals as goal

pub overflow_add-result : goal.overflow_add-result
overflow_add-result c = omega (arith, run_long c.args.from c.args.to)

pub overflow_cast-result : goal.overflow_cast-result
overflow_cast-result c = omega (arith, ints, run_long c.args.from c.args.to)

pub returns-then-from-to : goal.returns-then-from-to
returns-then-from-to c = sym (run_up c.args.from c.args.to c.args.i c.if-from-to.true)

pub returns-else-from-to : goal.returns-else-from-to
returns-else-from-to c =
    rw (run_down c.args.from c.args.to c.args.i c.if-from-to.false)
    (omega (arith, ints, run_long c.args.from c.args.to))
