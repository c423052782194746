-- Answers as bytes: a byte for the kind, and then numbers of four bytes each, cells as bits, or sets of eight bytes each.
use Rattle.std.specs.Prelude.{ℕ, zero, suc, ◌+◌, ◌*◌, ◌/◌, ◌%◌, ◌^◌, Bool, cond, ◌&&◌, ◌||◌, List, [], ◌∷◌, ◌++◌, map, length, take, drop, ◌==◌, nat_le, nat_lt, slice_index}
use Rattle.std.specs.List.{range_with_len}
use Rattle.weave.specs.Rows.{pick}
use Rattle.weave.specs.Calls.{Answer, refused, number, two, cells, together, over_all}
use Rattle.encoding.specs.Numbers.{four, eight, number_in, wide_in}

-- bit i of a number, the lowest first
abbrev pub bit : ℕ → ℕ → Bool
bit x i = x / 2 ^ i % 2 == 1

-- its first n bits
unfoldable pub bits : ℕ → ℕ → List Bool
bits n x = map (bit x) (range_with_len 0 n)

-- the number that bits are
unfoldable pub value : List Bool → ℕ
value [] = 0
value (b ∷ bs) = pick b 1 0 + 2 * value bs

-- how many bytes n bits take
abbrev pub bytes_for : ℕ → ℕ
bytes_for n = (n + 7) / 8

-- byte i of bits, eight to a byte
abbrev pub octet : List Bool → ℕ → ℕ
octet bs i = value (take 8 (drop (8 * i) bs))

-- bits as bytes: as few as hold them, unused bits 0
unfoldable pub packed : List Bool → List ℕ
packed bs = map (octet bs) (range_with_len 0 (bytes_for (length bs)))

-- bit i of bytes, and the first n
abbrev pub bit_of : List ℕ → ℕ → Bool
bit_of bs i = bit (slice_index bs (i / 8)) (i % 8)

unfoldable pub bits_in : List ℕ → ℕ → List Bool
bits_in bs n = map (bit_of bs) (range_with_len 0 n)

-- the bytes of an answer
unfoldable pub answer_bytes : Answer → List ℕ
answer_bytes (refused j k) = 0 ∷ (four j ++ four k)
answer_bytes (number n) = 1 ∷ four n
answer_bytes (two m n) = 2 ∷ (four m ++ four n)
answer_bytes (cells bs) = 3 ∷ (four (length bs) ++ packed bs)
answer_bytes together = 4 ∷ []
answer_bytes (over_all ss ts) = 5 ∷ (eight (value ss) ++ eight (value ts))

-- refusals that there are: 1 at any place, 2, 3 and 6 at 0, 3 at 1
abbrev pub known : ℕ → ℕ → Bool
known j k = j == 1 || ((k == 0 && (j == 2 || (j == 3 || j == 6))) || (j == 3 && k == 1))

-- which answer bytes begin with, and the bytes after it; or none
pub data FirstAnswer : Type 0 where
  answers : Answer → List ℕ → FirstAnswer
  no_answer : FirstAnswer

-- no bit behind the first n of bytes is 1, in the byte that has the last of them
abbrev pub clean : ℕ → List ℕ → Bool
clean n bs = n % 8 == 0 || nat_lt (slice_index bs (n / 8)) (2 ^ (n % 8))

-- n cells, of which the bytes are given
unfoldable pub cells_read : ℕ → List ℕ → FirstAnswer
cells_read n bs = cond (nat_le n 1024 && (nat_le (bytes_for n) (length bs) && clean n bs)) (answers (cells (bits_in bs n)) (drop (bytes_for n) bs)) no_answer

-- an answer of kind k, of which the bytes after k are given
unfoldable pub answer_in : ℕ → List ℕ → FirstAnswer
answer_in zero bs =
    cond (nat_lt (length bs) 8) no_answer (cond (known (number_in bs) (number_in (drop 4 bs))) (answers (refused (number_in bs) (number_in (drop 4 bs))) (drop 8 bs)) no_answer)
answer_in (suc zero) bs = cond (nat_lt (length bs) 4) no_answer (answers (number (number_in bs)) (drop 4 bs))
answer_in (suc (suc zero)) bs = cond (nat_lt (length bs) 8) no_answer (answers (two (number_in bs) (number_in (drop 4 bs))) (drop 8 bs))
answer_in (suc (suc (suc zero))) bs = cond (nat_lt (length bs) 4) no_answer (cells_read (number_in bs) (drop 4 bs))
answer_in (suc (suc (suc (suc zero)))) bs = answers together bs
answer_in (suc (suc (suc (suc (suc zero))))) bs =
    cond (nat_lt (length bs) 16) no_answer (answers (over_all (bits 64 (wide_in bs)) (bits 64 (wide_in (drop 8 bs)))) (drop 16 bs))
answer_in (suc (suc (suc (suc (suc (suc k)))))) bs = no_answer

-- the answer that bytes begin with
unfoldable pub first_answer : List ℕ → FirstAnswer
first_answer [] = no_answer
first_answer (k ∷ bs) = answer_in k bs
