-- The enums of answers and refusals by the definitions: which answer each case is.
use Rattle.std.specs.Prelude.{◌≡◌, ℕ, ◌≤◌, min, true, false, List, Some, None, Option, Result, MatchResult, slice_index}
use Rattle.std.specs.Borrow.{Bor}
use Rattle.weave.specs.Calls.{refused, number, two, cells, together, over_all}
use Rattle.weave.specs.Calls as weave
use Rattle.encoding.specs.Answers.{bits, bits_in, bytes_for, known, FirstAnswer, answers, no_answer}
use Rattle.wire.specs.declared.Refusal.{Refusal}
use Rattle.wire.specs.declared.Refusal.TheVariants.{Unreadable, NotThere, LimitsOutOfRange, TooLittleMemory, NothingToUndo}
use Rattle.wire.specs.declared.UnknownRefusal.{UnknownRefusal}
use Rattle.wire.specs.declared.Answer.{Answer}
use Rattle.wire.specs.declared.Answer.TheVariants.{Refused, Number, Two, Cells, Together, Over}

-- the number of a refusal, and its place
abbrev pub number_of : Refusal → ℕ
number_of (Unreadable p) = 1
number_of NotThere = 2
number_of LimitsOutOfRange = 3
number_of TooLittleMemory = 3
number_of NothingToUndo = 6

abbrev pub place_of : Refusal → ℕ
place_of (Unreadable p) = p
place_of NotThere = 0
place_of LimitsOutOfRange = 1
place_of TooLittleMemory = 0
place_of NothingToUndo = 0

-- the refusal that has a number and a place; or these, which no refusal has
abbrev pub IsRefusal : ℕ × ℕ → Result Refusal UnknownRefusal → Type 0
IsRefusal code r =
    MatchResult r (λ v. (number_of v ≡ code.0) × (place_of v ≡ code.1) × (known code.0 code.1 ≡ true)) (λ e. (e.0 ≡ code.0) × (e.1 ≡ code.1) × (known code.0 code.1 ≡ false))

-- which answer a case is; of cells there are 1,024 at most, and of shafts and treadles 64
abbrev pub answer_of : Answer → weave.Answer
answer_of (Refused r) = refused (number_of r) (place_of r)
answer_of (Number n) = number n
answer_of (Two m n) = two m n
answer_of (Cells n bs) = cells (bits_in bs (min n 1024))
answer_of Together = together
answer_of (Over s t) = over_all (bits 64 s) (bits 64 t)

-- it has nothing that its bytes have not
abbrev pub Plain : Answer → Type 0
Plain (Refused r) = Unit {0}
Plain (Number n) = Unit {0}
Plain (Two m n) = Unit {0}
Plain (Cells n bs) = (n ≤ 1024) × ((i : ℕ) → bytes_for n ≤ i → slice_index bs i ≡ 0)
Plain Together = Unit {0}
Plain (Over s t) = Unit {0}

-- the answer that bytes begin with, by the definition x of it, as a function returns it
abbrev pub Answered : FirstAnswer → Option (Answer × Bor (List ℕ)) → Type 0
Answered x (Some v) = (x ≡ answers (answer_of v.0) v.1.now) × Plain v.0
Answered x None = x ≡ no_answer
