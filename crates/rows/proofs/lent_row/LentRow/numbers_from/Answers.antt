use Rattle.std.proofs.Common.{◌+◌, sym, ◌∙◌}
use Rattle.rows.specs.Rows.{row_in}
use Rattle.rows.proofs.Rounds.{round_written}
use Rattle.rows.proofs.lent_row.LentRow.numbers_from.Goals as goal

pub returns : goal.returns
returns c = λ k h. c.around.ensures k h ∙ sym (round_written (row_in c.args.self) (c.args.from + k) c.args.self.begins.small.some)
