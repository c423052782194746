-- What is promised of calls and answers as bytes. Each is a statement, a type whose proof is owed.
use Rattle.std.specs.Prelude.{◌≡◌, ℕ, suc, ◌+◌, ◌-◌, ◌^◌, ◌<◌, ◌≤◌, Bool, true, false, ◌&&◌, ◌⊎◌, List, ◌++◌, length, take, replicate, ◌≢◌, nat_le}
use Rattle.weave.specs.Rows.{Row, then, times, turned, size}
use Rattle.weave.specs.Calls.{Call, threads, treadles, garbled, Answer, refused, number, two, cells, together, over_all}
use Rattle.weave.specs.Promise.{field, readable}
use Rattle.encoding.specs.Numbers.{Bytes}
use Rattle.encoding.specs.Rows.{row_bytes}
use Rattle.encoding.specs.Calls.{call_bytes, begins, first_call, reads, any}
use Rattle.encoding.specs.Answers.{bits, answer_bytes, known, answers, first_answer}

-- a call that is written is read back as itself, up to its end, whatever follows
abbrev pub CallsComeBack : Type 0
CallsComeBack = (c : Call) → any c ≡ true → readable c ≡ true → ((rest : List ℕ) → first_call (call_bytes c ++ rest) ≡ begins c rest) × (reads (call_bytes c) ≡ c)

-- answers that bytes can carry
unfoldable pub carries : Answer → Bool
carries (refused j k) = known j k && field k
carries (number n) = field n
carries (two m n) = field m && field n
carries (cells bs) = nat_le (length bs) 1024
carries together = true
carries (over_all ss ts) = nat_le (length ss) 64 && nat_le (length ts) 64

-- a set of up to 64, filled up to 64
abbrev pub to_64 : List Bool → List Bool
to_64 ss = ss ++ replicate (64 - length ss) false

unfoldable pub filled : Answer → Answer
filled (refused j k) = refused j k
filled (number n) = number n
filled (two m n) = two m n
filled (cells bs) = cells bs
filled together = together
filled (over_all ss ts) = over_all (to_64 ss) (to_64 ts)

-- an answer that is written is read back, up to its end, whatever follows: as itself, but for sets, which are filled up
abbrev pub AnswersComeBack : Type 0
AnswersComeBack = (a : Answer) (rest : List ℕ) → carries a ≡ true → first_answer (answer_bytes a ++ rest) ≡ answers (filled a) rest

-- what is read was written: bytes that begin with a call, or an answer, begin with its bytes, and these can carry it
abbrev pub ReadAsWritten : Type 0
ReadAsWritten =
    ((bs : List ℕ) (c : Call) (rest : List ℕ) → Bytes bs → first_call bs ≡ begins c rest → (bs ≡ call_bytes c ++ rest) × (readable c ≡ true) × (any c ≡ true))
    × ((bs : List ℕ) (a : Answer) (rest : List ℕ) → Bytes bs → first_answer bs ≡ answers a rest → (bs ≡ answer_bytes a ++ rest) × (carries a ≡ true))

-- sets of fewer than 64 have the same bytes as they have of 64
abbrev pub NarrowSets : Type 0
NarrowSets =
    (m n s t : ℕ) → m ≤ 64 → n ≤ 64 → s < 2 ^ m → t < 2 ^ n → answer_bytes (over_all (bits 64 s) (bits 64 t)) ≡ answer_bytes (over_all (bits m s) (bits n t))

-- a call begins with bytes
abbrev pub BeginsWith : Call → List ℕ → Type 0
BeginsWith c bs = (zs : List ℕ) × (call_bytes c ≡ bs ++ zs)

-- part number i of a row, counted from 0, from its outside in, is d deep, and begins at byte p of the row
pub data Stands : Row → ℕ → ℕ → ℕ → Type 0 where
  outermost : {r : Row} → Stands r 0 1 0
  in_first : {r s : Row} {i d p : ℕ} → Stands r i d p → Stands (then r s) (suc i) (suc d) (suc p)
  in_second : {r s : Row} {i d p : ℕ} → Stands s i d p → Stands (then r s) (suc (size r + i)) (suc d) (suc (length (row_bytes r) + p))
  in_times : {r : Row} {n i d p : ℕ} → Stands r i d p → Stands (times n r) (suc i) (suc d) (5 + p)
  in_turned : {r : Row} {i d p : ℕ} → Stands r i d p → Stands (turned r) (suc i) (suc d) (suc p)

-- at place p of bytes a part begins that is one too many, or too deep: it does in some call that begins with the bytes before
pub record Beyond (bs : List ℕ) (p : ℕ) : Type 0 where
  pub call : Call
  pub is_call : any call ≡ true
  pub before : BeginsWith call (take p bs)
  pub row : Row
  pub has_row : (call ≡ threads row) ⊎ (call ≡ treadles row)
  pub part_number : ℕ
  pub part_deep : ℕ
  pub part_place : ℕ
  pub stands : Stands row part_number part_deep part_place
  pub here : p ≡ suc part_place
  pub too_much : (part_number ≡ 1024) ⊎ (part_deep ≡ 256)

-- the place that is told of bytes that are no call is the first that fits none. Some call begins with the bytes before it. Where bytes are missing, these are no call. And none begins with
-- these and the byte at the place, unless a part begins there that is one too many, or too deep. A call is any here, of whatever size and depth
abbrev pub FirstMisfit : Type 0
FirstMisfit =
    (bs : List ℕ) (p : ℕ) → Bytes bs → reads bs ≡ garbled p →
    (p ≤ length bs)
    × ((c : Call) × (any c ≡ true) × BeginsWith c (take p bs))
    × (p ≡ length bs → (c : Call) → any c ≡ true → call_bytes c ≢ bs)
    × (p < length bs → ((c : Call) → any c ≡ true → BeginsWith c (take (suc p) bs) → ⊥) ⊎ Beyond bs p)
