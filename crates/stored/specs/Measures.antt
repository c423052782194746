-- What is found about a row before it is taken, and when it is taken.
use Rattle.std.specs.Prelude.{◌≡◌, ℕ, Bool, true, false, ◌&&◌, Some, None, Option, nat_le}
use Rattle.weave.specs.Rows.{Row, long, size, deep}
use Rattle.weave.specs.Calls.{good_row}
use Rattle.stored.specs.declared.Extent.{Extent}
use Rattle.stored.specs.declared.measured.Measured.{Measured}

-- a row that may be taken: how many parts it has, how deep it is and how long; or it may not be taken
abbrev pub Measures : ℕ → Row → Option Measured → Type 0
Measures m r (Some x) = (good_row m r ≡ true) × (x.parts ≡ size r) × (x.depth ≡ deep r) × (x.numbers ≡ long r)
Measures m r None = good_row m r ≡ false

-- so many parts, so deep and so long is no more than a row may be
abbrev pub fits : ℕ → ℕ → ℕ → Bool
fits parts depth numbers = (nat_le parts 256 && nat_le depth 32) && nat_le numbers 16777216

abbrev pub Within : ℕ → ℕ → ℕ → Option Measured → Type 0
Within parts depth numbers (Some x) = (fits parts depth numbers ≡ true) × (x.parts ≡ parts) × (x.depth ≡ depth) × (x.numbers ≡ numbers)
Within parts depth numbers None = fits parts depth numbers ≡ false

-- a row is taken just if it is good, and then how large and how long it is is told
abbrev pub Checks : ℕ → Row → Option Extent → Type 0
Checks m r (Some x) = (good_row m r ≡ true) × (x.parts ≡ size r) × (x.numbers ≡ long r)
Checks m r None = good_row m r ≡ false
