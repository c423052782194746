-- Written several times over, a draft is told the same, but for floats that never end.
use Rattle.laws.proofs.Same.{written_over}
use Rattle.laws.proofs.written_over.Goals as goal

pub returns : goal.returns
returns c = written_over
