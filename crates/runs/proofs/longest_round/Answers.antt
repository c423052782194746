use Rattle.std.proofs.Common.{sym, ap, ◌∙◌, arith}
use Rattle.weave.specs.Rows.{written}
use Rattle.rows.specs.Rows.{row_in}
use Rattle.lent.specs.Bits.{bit}
use Rattle.runs.specs.Found.{Short}
use Rattle.runs.specs.declared.Runs.TheVariants.{Broken}
use Rattle.runs.proofs.Lists.{round_in, round_found, row_short}
use Rattle.runs.proofs.longest_round.Goals as goal

pub overflow_add-found : goal.overflow_add-found
overflow_add-found c =
    let s : Short (Broken c.in-Broken.found) = rw c.in-Broken.is at (row_short (bit c.args.set) (row_in c.args.row) _ c.args.row.begins.small.short c.runs_in.ensures) in
    omega arith

pub returns-in-Whole : goal.returns-in-Whole
returns-in-Whole c = ap round_in (sym c.in-Whole.is ∙ c.runs_in.ensures) ∙ round_found (bit c.args.set) (written (row_in c.args.row))

pub returns-in-Broken : goal.returns-in-Broken
returns-in-Broken c = c.max.ensures ∙ ap round_in (sym c.in-Broken.is ∙ c.runs_in.ensures) ∙ round_found (bit c.args.set) (written (row_in c.args.row))
