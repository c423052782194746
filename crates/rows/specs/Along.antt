-- Going along a row.
use Rattle.std.specs.Prelude.{◌≡◌, ℕ, ◌+◌, ◌%◌, ◌<◌, Bool, true, false, List, length, slice_index}
use Rattle.weave.specs.Rows.{Row, turned, long}
use Rattle.weave.specs.Promise.{number_at}

-- a row as it is gone along: back from its end, or from its beginning
abbrev pub facing : Bool → Row → Row
facing true r = turned r
facing false r = r

-- the numbers of a row from a place on
abbrev pub Along : Row → ℕ → List ℕ → Type 0
Along r from ns = (k : ℕ) → k < length ns → slice_index ns k ≡ number_at r (from + k)

-- the same, round its end, again and again
abbrev pub Around : Row → ℕ → List ℕ → Type 0
Around r from ns = (k : ℕ) → k < length ns → slice_index ns k ≡ number_at r ((from + k) % long r)
