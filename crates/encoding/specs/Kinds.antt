-- The kinds of calls, of parts of a row and of answers: the byte of each, and which bytes are no kind.
use Rattle.std.specs.Prelude.{◌≡◌, ℕ, ◌<◌, Result, MatchResult}
use Rattle.encoding.specs.declared.kinds.CallKind.{CallKind}
use Rattle.encoding.specs.declared.kinds.CallKind.TheVariants.{Thread, Treadle, Tie, Back, Cell, Part, Floats, Fewest, Hangs}
use Rattle.encoding.specs.declared.kinds.PartKind.{PartKind}
use Rattle.encoding.specs.declared.kinds.PartKind.TheVariants.{One, Then, Times, Turned, Run}
use Rattle.encoding.specs.declared.kinds.AnswerKind.{AnswerKind}
use Rattle.encoding.specs.declared.kinds.AnswerKind.TheVariants.{Refused, Number, Two, Cells, Together, Over}
use Rattle.encoding.specs.declared.kinds.UnknownKind.{UnknownKind}

abbrev pub call_byte : CallKind → ℕ
call_byte Thread = 0
call_byte Treadle = 1
call_byte Tie = 2
call_byte Back = 3
call_byte Cell = 4
call_byte Part = 5
call_byte Floats = 6
call_byte Fewest = 7
call_byte Hangs = 8

abbrev pub part_byte : PartKind → ℕ
part_byte One = 0
part_byte Then = 1
part_byte Times = 2
part_byte Turned = 3
part_byte Run = 4

abbrev pub answer_byte : AnswerKind → ℕ
answer_byte Refused = 0
answer_byte Number = 1
answer_byte Two = 2
answer_byte Cells = 3
answer_byte Together = 4
answer_byte Over = 5

-- the kind with this byte; or the byte, which is that of no kind
abbrev pub IsCallKind : ℕ → Result CallKind UnknownKind → Type 0
IsCallKind byte r = MatchResult r (λ kind. call_byte kind ≡ byte) (λ e. (e.0 ≡ byte) × (8 < byte))

abbrev pub IsPartKind : ℕ → Result PartKind UnknownKind → Type 0
IsPartKind byte r = MatchResult r (λ kind. part_byte kind ≡ byte) (λ e. (e.0 ≡ byte) × (4 < byte))

abbrev pub IsAnswerKind : ℕ → Result AnswerKind UnknownKind → Type 0
IsAnswerKind byte r = MatchResult r (λ kind. answer_byte kind ≡ byte) (λ e. (e.0 ≡ byte) × (5 < byte))
