use Rattle.std.proofs.Common.{sym, ◌∙◌, mod-eq_of_lt, arith}
use Rattle.rows.specs.Rows.{row_in}
use Rattle.rows.proofs.Rounds.{round_place, round_written}
use Rattle.rows.proofs.Told.{some_told}
use Rattle.rows.proofs.lent_row.LentRow.number_at.Goals as goal

pub nonzero_rem-i : goal.nonzero_rem-i
nonzero_rem-i c = omega (arith, c.length.ensures, some_told _ c.args.self.begins)

pub number_down-requires : goal.number_down-requires
number_down-requires c = rw c.length.ensures (round_place (row_in c.args.self) c.args.i c.args.self.begins.small.some)

pub returns-clause-down : goal.returns-clause-down
returns-clause-down c = λ h. rw (c.length.ensures, mod-eq_of_lt h) at c.number_down.ensures

pub returns-clause-written : goal.returns-clause-written
returns-clause-written c = rw c.length.ensures at c.number_down.ensures ∙ sym (round_written (row_in c.args.self) c.args.i c.args.self.begins.small.some)
