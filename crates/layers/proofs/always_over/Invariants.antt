use Rattle.std.proofs.Common.{◌≡◌, ℕ, ◌<◌, true}
use Rattle.weave.specs.Rows.{written}
use Rattle.weave.specs.Cloth.{Draft, among}
use Rattle.lent.specs.Shows.{Shows}
use Rattle.layering.specs.Layers.{LeftDown}
use Rattle.layers.proofs.always_over.Given as goal

-- some used treadle leaves each used shaft before s down
abbrev pub invariant-loop-s : goal.invariant-loop-s
invariant-loop-s l = (d : Draft) → Shows d l.used.draft → (r : ℕ) → r < l.s → among r (written d.threading) ≡ true → LeftDown d r
