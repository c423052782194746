use Rattle.std.proofs.Common.{◌+◌, ◌*◌, cond, ltb}
use Rattle.rowtext.proofs.+row.Given as goal

abbrev pub decreases-row : goal.decreases-row
decreases-row l = 2 * l.deep + cond (ltb 1 l.n) 0 1
