-- What functions return, in the words of the definitions.
use Rattle.std.specs.Prelude.{◌≡◌, ℕ, List, [], ◌∷◌, ◌++◌, map, length, Some, None, Ok, Err, Option, Result}
use Rattle.std.specs.Borrow.{Bor}
use Rattle.weave.specs.Rows.{Row}
use Rattle.weave.specs.Calls.{Call}
use Rattle.encoding.specs.Numbers.{fours}
use Rattle.encoding.specs.Rows.{row_bytes}
use Rattle.encoding.specs.Calls.{call_bytes}
use Rattle.tokens.specs.declared.TextError.{TextError}
use Rattle.tokens.specs.Results.{UnlessMemory}
use Rattle.rowtext.specs.Rows.{Read, got}
use Rattle.encoding.specs.declared.kinds.CallKind.{CallKind}
use Rattle.calltext.specs.Lines.{Said, nothing, calls, Numbers, numbers, Worded, worded, no_word}

-- what is known of a value that is returned, and what where something could not be read
abbrev pub Returned : {V : Type 0} → Result V TextError → (V → Type 0) → Type 0 → Type 0
Returned (Ok v) P Q = P v
Returned (Err e) P Q = UnlessMemory e Q

abbrev pub as_worded : Option (CallKind × Bor (List ℕ)) → Worded
as_worded (Some v) = worded v.0 v.1.now
as_worded None = no_word

-- x are numbers, and their bytes were put behind old
pub record PutNumbers (x : Numbers) (old new : List ℕ) : Type 0 where
  pub these : List ℕ
  pub so : x ≡ numbers these
  pub bytes : new ≡ old ++ fours these

-- x are n numbers, and the only bytes are a kind and their bytes
pub record NumberCall (x : Numbers) (kind n : ℕ) (bss : List (List ℕ)) : Type 0 where
  pub these : List ℕ
  pub so : x ≡ numbers these
  pub many : length these ≡ n
  pub bytes : bss ≡ (kind ∷ fours these) ∷ []

-- x is a row, and the only bytes are a kind and its bytes
pub record RowCall (x : Read) (kind : ℕ) (bss : List (List ℕ)) : Type 0 where
  pub row : Row
  pub so : x ≡ got row []
  pub bytes : bss ≡ (kind ∷ row_bytes row) ∷ []

-- x are calls, and bss are the bytes of each
pub record AreCalls (x : Said) (bss : List (List ℕ)) : Type 0 where
  pub these : List Call
  pub so : x ≡ calls these
  pub bytes : bss ≡ map call_bytes these

-- a line is what is said; f has the bytes of its calls
abbrev pub IsLine : {V : Type 0} → (V → List (List ℕ)) → Option V → Said → Type 0
IsLine f None x = x ≡ nothing
IsLine f (Some v) x = AreCalls x (f v)
