-- What the log has of a change, and what a word of it tells.
use Rattle.std.specs.Prelude.{◌≡◌, ℕ, ◌*◌, ◌^◌, ◌<◌, ◌≤◌, Ok, Err, Result}
use Rattle.desks.specs.Desks.{row_number, tie_number}
use Rattle.drafts.specs.declared.Change.{Change}
use Rattle.drafts.specs.declared.Change.TheVariants.{Row, Tie}

abbrev pub word_of : Change → ℕ
word_of (Row w) = row_number w
word_of (Tie t s) = tie_number t s

-- a tie is one of the n shafts and of the m treadles that there are
abbrev pub IsOf : ℕ → ℕ → Change → Type 0
IsOf n m (Row w) = Unit {0}
IsOf n m (Tie t s) = (t < m) × (s < n)

-- a shaft of a word is below 64, and each word is of a change but those of treadles past four bytes
abbrev pub Tells : {E : Type 0} → ℕ → Result Change E → Type 0
Tells w (Ok c) = (word_of c ≡ w) × IsOf 64 (2 ^ 32) c
Tells w (Err e) = 64 * 2 ^ 32 ≤ w
