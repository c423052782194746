use Rattle.std.proofs.Common.{◌≡◌, ◌<◌, length}
use Rattle.tokens.specs.Tokens.{digits_in}
use Rattle.tokens.proofs.digits.Given as goal

abbrev pub invariant-loop-left : goal.invariant-loop-left
invariant-loop-left l = (l.n < 4294967296) × (digits_in 0 l.text ≡ digits_in l.n l.left)

abbrev pub decreases-loop-left : goal.decreases-loop-left
decreases-loop-left l = length l.left
