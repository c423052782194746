-- The shafts that a treadle lifts, as a set.
use Rattle.std.specs.Prelude.{◌≡◌, ℕ, ◌<◌, Bool, List}
use Rattle.weave.specs.Cloth.{lifts}
use Rattle.encoding.specs.Answers.{bit}

-- treadle t lifts just the shafts of the set w
abbrev pub Lifted : ℕ → List (List Bool) → ℕ → Type 0
Lifted w ts t = (s : ℕ) → s < 64 → bit w s ≡ lifts ts t s
