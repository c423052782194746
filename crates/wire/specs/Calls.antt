-- The enum of calls by the definitions: which call each case is, and what its bytes are.
use Rattle.std.specs.Prelude.{◌≡◌, ℕ, suc, ◌+◌, ◌-◌, ◌*◌, ◌<◌, ◌≤◌, List, [], ◌∷◌, ◌++◌, length, drop, Some, None, Ok, Err, Option, Result}
use Rattle.std.specs.Borrow.{Bor}
use Rattle.weave.specs.Rows.{Row}
use Rattle.weave.specs.Calls.{threads, treadles, ties, back, cell, part, floats, fewest, hangs}
use Rattle.weave.specs.Calls as weave
use Rattle.encoding.specs.Numbers.{four, numbers_in, placed}
use Rattle.encoding.specs.Calls.{First, begins, misfit, with_row}
use Rattle.encoding.specs.Rows.{row_of, row_read, HoldsRow, Skip, past, stop}
use Rattle.wire.specs.declared.Call.{Call}
use Rattle.wire.specs.declared.Call.TheVariants.{Thread, Treadle, Tie, Back, Cell, Part, Floats, Fewest, Hangs}

-- which call a case is
abbrev pub call_of : Call → weave.Call
call_of (Thread row) = threads (row_of (row_read row.now))
call_of (Treadle row) = treadles (row_of (row_read row.now))
call_of (Tie t s) = ties t s
call_of Back = back
call_of (Cell r c) = cell r c
call_of (Part r c n) = part r c n
call_of (Floats k) = floats k
call_of Fewest = fewest
call_of Hangs = hangs

-- the bytes that it hands on are just those of its row
abbrev pub Holds : Call → Type 0
Holds (Thread row) = HoldsRow row.now
Holds (Treadle row) = HoldsRow row.now
Holds (Tie t s) = Unit {0}
Holds Back = Unit {0}
Holds (Cell r c) = Unit {0}
Holds (Part r c n) = Unit {0}
Holds (Floats k) = Unit {0}
Holds Fewest = Unit {0}
Holds Hangs = Unit {0}

-- its bytes, whatever it hands on
abbrev pub bytes_of : Call → List ℕ
bytes_of (Thread row) = 0 ∷ row.now
bytes_of (Treadle row) = 1 ∷ row.now
bytes_of (Tie t s) = 2 ∷ (four t ++ four s)
bytes_of Back = 3 ∷ []
bytes_of (Cell r c) = 4 ∷ (four r ++ four c)
bytes_of (Part r c n) = 5 ∷ (four r ++ (four c ++ four n))
bytes_of (Floats k) = 6 ∷ four k
bytes_of Fewest = 7 ∷ []
bytes_of Hangs = 8 ∷ []

-- bytes ys that were written to the front of xs, which is zs then, and how many; or none, and nothing changed, for want of room
abbrev pub Written : List ℕ → List ℕ → List ℕ → Option ℕ → Type 0
Written ys xs zs (Some n) = (length ys ≤ length xs) × (n ≡ length ys) × (zs ≡ placed xs 0 ys)
Written ys xs zs None = (length xs < length ys) × (zs ≡ xs)

-- what is behind a row, as a function returns it
abbrev pub skip_from : Result (Bor (List ℕ) × ℕ) ℕ → Skip
skip_from (Ok v) = past v.1 v.0.now
skip_from (Err left) = stop left

-- the first n numbers of bytes, and the bytes after them, as a function returns them; or bytes are missing
abbrev pub TookNumbers : ℕ → List ℕ → Option (List ℕ × Bor (List ℕ)) → Type 0
TookNumbers n bs (Some v) = (4 * n ≤ length bs) × (v.0 ≡ numbers_in n bs) × (v.1.now ≡ drop (4 * n) bs)
TookNumbers n bs None = length bs < 4 * n

-- how many of m bytes there are from the first that does not fit on: nearly all of them, since no row has more than 9,216
pub record FarBack (m left : ℕ) : Type 0 where
  pub some : left ≤ m
  pub few : m ≤ left + 9216

-- the bytes of the row that bytes begin with, and the bytes after it; or how many bytes there are from the first that does not fit on
abbrev pub SplitRow : List ℕ → Result (Bor (List ℕ) × Bor (List ℕ)) ℕ → Type 0
SplitRow bs (Ok v) = ((f : Row → weave.Call) → with_row f (length bs) (row_read bs) ≡ begins (f (row_of (row_read v.0.now))) v.1.now) × HoldsRow v.0.now
SplitRow bs (Err left) = ((f : Row → weave.Call) → with_row f (length bs) (row_read bs) ≡ misfit (suc (length bs - left))) × FarBack (length bs) left

-- a call x of which m bytes after its kind were read, and the bytes after it; or how many bytes there are from the first that does not fit on
abbrev pub ReadAfter : First → ℕ → Result (Call × Bor (List ℕ)) ℕ → Type 0
ReadAfter x m (Ok v) = (x ≡ begins (call_of v.0) v.1.now) × Holds v.0
ReadAfter x m (Err left) = (x ≡ misfit (suc (m - left))) × FarBack m left
