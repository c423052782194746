-- The longest float of a kind.
use Rattle.std.specs.Prelude.{◌≡◌, ℕ, ◌<◌, Some, None, Option}
use Rattle.weave.specs.Cloth.{Draft}
use Rattle.weave.specs.Calls.{longest}
use Rattle.floats.specs.declared.Float.{Float}
use Rattle.floats.specs.declared.Kind.{Kind}
use Rattle.floats.specs.Kinds.{number_of, HasFloat}

-- how long a float is, if there is one
abbrev pub length_of : Option Float → ℕ
length_of (Some f) = f.length
length_of None = 0

-- how long the longest is, with a shaft or a treadle that has it; or no thread floats
abbrev pub Longest : Draft → Kind → Option Float → Type 0
Longest d k (Some f) = (f.length ≡ longest d (number_of k)) × (0 < f.length) × HasFloat d k f.of f.length
Longest d k None = longest d (number_of k) ≡ 0
