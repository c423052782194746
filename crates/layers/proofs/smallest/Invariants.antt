use Rattle.std.proofs.Common.{◌≡◌}
use lib.Count.{ones}
use Rattle.layers.proofs.Smaller.{Smaller}
use Rattle.layers.proofs.smallest.Given as goal

-- the first of the smallest before i
abbrev pub invariant-loop-i : goal.invariant-loop-i
invariant-loop-i l = (l.fewest ≡ ones l.smallest) × Smaller l.set-items l.used l.smallest l.i
