use Rattle.std.proofs.Common.{arith}
use Rattle.rows.proofs.Told.{opened_told}
use Rattle.rows.proofs.lent_row.LentRow.length.Goals as goal

pub bounds-self-0 : goal.bounds-self-0
bounds-self-0 c = let o = opened_told _ c.args.self.begins in omega arith

pub returns : goal.returns
returns c = let o = opened_told _ c.args.self.begins in omega arith
