-- Calls as bytes: a byte for the kind, and then a row, or numbers of four bytes each.
use Rattle.std.specs.Prelude.{ℕ, zero, suc, ◌-◌, ◌*◌, Bool, true, false, cond, ◌&&◌, List, [], ◌∷◌, ◌++◌, length, drop, nat_lt}
use Rattle.weave.specs.Rows.{Row}
use Rattle.weave.specs.Calls.{Call, threads, treadles, ties, back, cell, part, floats, fewest, hangs, garbled}
use Rattle.weave.specs.Promise.{field, fields_in}
use Rattle.encoding.specs.Numbers.{four, number_in}
use Rattle.encoding.specs.Rows.{row_bytes, Read, got, bad, row_read}

-- the bytes of a call; what can't be read has none of its own
unfoldable pub call_bytes : Call → List ℕ
call_bytes (threads r) = 0 ∷ row_bytes r
call_bytes (treadles r) = 1 ∷ row_bytes r
call_bytes (ties t s) = 2 ∷ (four t ++ four s)
call_bytes back = 3 ∷ []
call_bytes (cell r c) = 4 ∷ (four r ++ four c)
call_bytes (part r c n) = 5 ∷ (four r ++ (four c ++ four n))
call_bytes (floats k) = 6 ∷ four k
call_bytes fewest = 7 ∷ []
call_bytes hangs = 8 ∷ []
call_bytes (garbled n) = []

-- which call bytes begin with, and the bytes after it; or the place of the first byte that does not fit
pub data First : Type 0 where
  begins : Call → List ℕ → First
  misfit : ℕ → First

-- a call of n numbers, of which the bytes after its kind are given
abbrev pub with_numbers : ℕ → List ℕ → Call → First
with_numbers n bs c = cond (nat_lt (length bs) (4 * n)) (misfit (suc (length bs))) (begins c (drop (4 * n) bs))

-- a call with a row that was read from the m bytes after its kind
unfoldable pub with_row : (Row → Call) → ℕ → Read → First
with_row f m (got r n bs) = begins (f r) bs
with_row f m (bad left) = misfit (suc (m - left))

-- a call of kind k, of which the bytes after k are given; f reads a row
unfoldable pub call_in : (List ℕ → Read) → ℕ → List ℕ → First
call_in f zero bs = with_row threads (length bs) (f bs)
call_in f (suc zero) bs = with_row treadles (length bs) (f bs)
call_in f (suc (suc zero)) bs = with_numbers 2 bs (ties (number_in bs) (number_in (drop 4 bs)))
call_in f (suc (suc (suc zero))) bs = with_numbers 0 bs back
call_in f (suc (suc (suc (suc zero)))) bs = with_numbers 2 bs (cell (number_in bs) (number_in (drop 4 bs)))
call_in f (suc (suc (suc (suc (suc zero))))) bs = with_numbers 3 bs (part (number_in bs) (number_in (drop 4 bs)) (number_in (drop 8 bs)))
call_in f (suc (suc (suc (suc (suc (suc zero)))))) bs = with_numbers 1 bs (floats (number_in bs))
call_in f (suc (suc (suc (suc (suc (suc (suc zero))))))) bs = with_numbers 0 bs fewest
call_in f (suc (suc (suc (suc (suc (suc (suc (suc zero)))))))) bs = with_numbers 0 bs hangs
call_in f (suc (suc (suc (suc (suc (suc (suc (suc (suc k))))))))) bs = misfit 0

-- the call that bytes begin with, where f reads a row
unfoldable pub first_in : (List ℕ → Read) → List ℕ → First
first_in f [] = misfit 0
first_in f (k ∷ bs) = call_in f k bs

-- the call that bytes begin with
abbrev pub first_call : List ℕ → First
first_call bs = first_in row_read bs

-- the call that m bytes are, if nothing is left over
unfoldable pub whole : ℕ → First → Call
whole m (begins c []) = c
whole m (begins c (b ∷ bs)) = garbled (m - length (b ∷ bs))
whole m (misfit p) = garbled p

-- which call bytes are
abbrev pub reads : List ℕ → Call
reads bs = whole (length bs) (first_call bs)

-- a call, of whatever size and depth, with numbers of four bytes
unfoldable pub any : Call → Bool
any (threads r) = fields_in r
any (treadles r) = fields_in r
any (ties t s) = field t && field s
any back = true
any (cell r c) = field r && field c
any (part r c n) = field r && (field c && field n)
any (floats k) = field k
any fewest = true
any hangs = true
any (garbled n) = false
