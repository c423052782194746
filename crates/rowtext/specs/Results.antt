-- What functions return, in the words of the definitions.
use Rattle.std.specs.Prelude.{◌≡◌, ℕ, List, ◌++◌, Ok, Err, Result}
use Rattle.std.specs.Borrow.{Bor}
use Rattle.weave.specs.Rows.{Row}
use Rattle.encoding.specs.Rows.{row_bytes}
use Rattle.tokens.specs.declared.TextError.{TextError}
use Rattle.tokens.specs.declared.Token.{Token}
use Rattle.tokens.specs.Results.{UnlessMemory}
use Rattle.rowtext.specs.Rows.{Read, got, bad}

-- x is a row that was read up to rest, and its bytes were put behind old
pub record Put (x : Read) (old new : List ℕ) (rest : List Token) : Type 0 where
  pub read : Row
  pub so : x ≡ got read rest
  pub bytes : new ≡ old ++ row_bytes read

-- the tokens after a row that was put behind bytes
abbrev pub Told : Result (Bor (List Token)) TextError → Read → List ℕ → List ℕ → Type 0
Told (Ok rest) x old new = Put x old new rest.now
Told (Err e) x old new = UnlessMemory e (x ≡ bad)
