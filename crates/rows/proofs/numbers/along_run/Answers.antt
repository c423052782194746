use Rattle.std.proofs.Common.{arith}
use Rattle.rows.proofs.Parts.{run_long}
use Rattle.rows.proofs.numbers.along_run.Goals as goal

pub overflow_cast-k : goal.overflow_cast-k
overflow_cast-k c = omega (arith, run_long c.args.a c.args.b)

pub overflow_add-from : goal.overflow_add-from
overflow_add-from c = omega (arith, run_long c.args.a c.args.b)
