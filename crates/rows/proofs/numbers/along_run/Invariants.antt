use Rattle.std.proofs.Common.{◌≡◌, ℕ, ◌+◌, ◌<◌, get_or}
use Rattle.weave.specs.Rows.{run}
use Rattle.weave.specs.Promise.{number_at}
use Rattle.rows.proofs.numbers.along_run.Given as goal

abbrev pub invariant-loop-k : goal.invariant-loop-k
invariant-loop-k l = (j : ℕ) → j < l.k → get_or l.out j 0 ≡ number_at (run l.a l.b) (l.from + j)
