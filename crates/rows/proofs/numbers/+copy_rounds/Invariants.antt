use Rattle.std.proofs.Common.{◌-◌, length}
use Rattle.rows.proofs.numbers.+copy_rounds.Given as goal

abbrev pub decreases-copy_rounds : goal.decreases-copy_rounds
decreases-copy_rounds l = length l.out.now - l.round
