use Rattle.std.proofs.Common.{sym, ap, ◌∙◌, arith}
use Rattle.weave.specs.Rows.{run, written}
use Rattle.lent.specs.Bits.{bit}
use Rattle.runs.specs.Found.{runs_of, of_turned}
use Rattle.runs.proofs.Lists.{turned_runs}
use Rattle.runs.proofs.Bits.{run_down_written}
use Rattle.runs.proofs.along.Goals as goal

pub returns-else-from-to : goal.returns-else-from-to
returns-else-from-to c =
    c.turn.ensures
    ∙ ap of_turned c.upward-else-from-to.ensures
    ∙ turned_runs (bit c.args.set) (written (run c.args.to c.args.from))
    ∙ ap (runs_of (bit c.args.set)) (sym (run_down_written c.args.from c.args.to (omega arith)))
