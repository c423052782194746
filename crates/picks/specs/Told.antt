-- What is told of some cells of a pick.
use Rattle.std.specs.Prelude.{◌≡◌, ℕ, ◌<◌, ◌≤◌, false, List, Some, None, Option}
use Rattle.weave.specs.Cloth.{Draft}
use Rattle.weave.specs.Calls.{cells_of}
use Rattle.encoding.specs.Answers.{bit_of, bits_in}
use Rattle.lent.specs.Shows.{Shows}
use Rattle.lent.specs.declared.Lent.{Lent}

-- up to 1,024 cells of the draft that is shown, and no other bits; or none
abbrev pub Told : Option (List ℕ) → Lent → ℕ → ℕ → ℕ → Type 0
Told (Some bs) l p c n = (n ≤ 1024) × ((d : Draft) → Shows d l → bits_in bs n ≡ cells_of d p c n) × ((i : ℕ) → n ≤ i → bit_of bs i ≡ false)
Told None l p c n = 1024 < n
