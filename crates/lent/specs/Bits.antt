-- Sets of shafts as bits of a number, the first shaft the lowest.
use Rattle.std.specs.Prelude.{ℕ, zero, suc, ◌/◌, ◌%◌, ◌^◌, Bool, List, [], ◌∷◌, ◌==◌}

-- is a number in the set
abbrev pub bit : ℕ → ℕ → Bool
bit w s = w / 2 ^ s % 2 == 1

-- the lowest n bits as a list
unfoldable pub bits_of : ℕ → ℕ → List Bool
bits_of zero w = []
bits_of (suc n) w = (w % 2 == 1) ∷ bits_of n (w / 2)
