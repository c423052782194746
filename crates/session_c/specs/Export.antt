-- What opening came to, as one number.
use Rattle.std.specs.Prelude.{ℕ, ◌+◌, ◌*◌, Ok, Err, Result}
use Rattle.wire.specs.Answers.{number_of, place_of}
use Rattle.wire.specs.declared.Refusal.{Refusal}

-- 0 for a desk, or the refusal's number in the high half and its place in the low one
abbrev pub code_of : {A : Type 0} → Result A Refusal → ℕ
code_of (Ok x) = 0
code_of (Err r) = 4294967296 * number_of r + place_of r
