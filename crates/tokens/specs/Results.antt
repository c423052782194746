-- What functions return, in the words of the definitions.
use Rattle.std.specs.Prelude.{◌≡◌, ℕ, List, Some, None, Option, Ok, Err, Result}
use Rattle.std.specs.Borrow.{Bor}
use Rattle.tokens.specs.declared.Token.{Token}
use Rattle.tokens.specs.declared.Token.TheVariants.{Number}
use Rattle.tokens.specs.declared.TextError.{TextError}
use Rattle.tokens.specs.declared.TextError.TheVariants.{Unreadable, Memory}
use Rattle.tokens.specs.Tokens.{Numbered, numbered, no_number, Taken, taken, no_token}

-- what is known where something could not be read; want of memory tells nothing
abbrev pub UnlessMemory : TextError → Type 0 → Type 0
UnlessMemory Unreadable P = P
UnlessMemory Memory P = Unit {0}

-- a token is read as the number that it is; one that is no number can't be read
abbrev pub IsNumber : Token → Result ℕ TextError → Type 0
IsNumber t (Ok n) = t ≡ Number n
IsNumber t (Err e) = (e ≡ Unreadable) × ((n : ℕ) → t ≡ Number n → ⊥)

abbrev pub as_numbered : Option (ℕ × Bor (List ℕ)) → Numbered
as_numbered (Some v) = numbered v.0 v.1.now
as_numbered None = no_number

abbrev pub as_taken : Option (Token × Bor (List ℕ)) → Taken
as_taken (Some v) = taken v.0 v.1.now
as_taken None = no_token
