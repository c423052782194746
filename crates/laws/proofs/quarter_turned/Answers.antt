-- Turned by a quarter, ends are picks: their floats, how few are needed, and what hung together does.
use Rattle.laws.proofs.Seen.{turned_by_quarter}
use Rattle.laws.proofs.quarter_turned.Goals as goal

pub returns : goal.returns
returns c = turned_by_quarter
