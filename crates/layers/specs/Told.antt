-- What is told of layers, and the sets that it is found by.
use Rattle.std.specs.Prelude.{◌≡◌, ℕ, ◌<◌, ◌≤◌, Bool, true, ◌⊎◌, List, Some, None, Option, count_ones, slice_index}
use Rattle.weave.specs.Rows.{written}
use Rattle.weave.specs.Cloth.{Draft, HangsTogether, among, lifts}
use Rattle.lent.specs.Bits.{bit}
use Rattle.layering.specs.Layers.{OverAll, Topmost, LeftDown}
use Rattle.layers.specs.declared.Layer.{Layer}

-- no layer if cloth hangs together; or else the topmost, which lies over all others
abbrev pub Told : Option Layer → Draft → Type 0
Told None d = HangsTogether d
Told (Some l) d = OverAll d l.shafts l.treadles × Topmost d l.shafts l.treadles

-- the first used shaft that every used treadle lifts, if there is one
abbrev pub AlwaysOver : Option ℕ → Draft → Type 0
AlwaysOver None d = (s : ℕ) → among s (written d.threading) ≡ true → LeftDown d s
AlwaysOver (Some s) d =
    (among s (written d.threading) ≡ true) × ((t : ℕ) → among t (written d.treadling) ≡ true → lifts d.tied t s ≡ true)
    × ((r : ℕ) → r < s → among r (written d.threading) ≡ true → LeftDown d r)

-- members of rows of sets
abbrev pub in_row : List ℕ → ℕ → ℕ → Bool
in_row rows i j = bit (slice_index rows i) j

-- the set of all if no member's set is smaller; or else the first of the smallest
abbrev pub Smallest : List ℕ → ℕ → ℕ → Type 0
Smallest sets all x =
    ((x ≡ all) × ((y : ℕ) → bit all y ≡ true → count_ones all ≤ count_ones (slice_index sets y)))
    ⊎ ((i : ℕ) × (bit all i ≡ true) × (x ≡ slice_index sets i) × (count_ones x < count_ones all)
    × ((y : ℕ) → bit all y ≡ true → count_ones x ≤ count_ones (slice_index sets y))
    × ((y : ℕ) → y < i → bit all y ≡ true → count_ones x < count_ones (slice_index sets y)))
