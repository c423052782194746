-- Numbers as bytes, low byte first, and bytes written over others.
use Rattle.std.specs.Prelude.{ℕ, zero, suc, ◌+◌, ◌*◌, ◌/◌, ◌%◌, ◌<◌, List, [], ◌∷◌, ◌++◌, length, take, drop, slice_index}

-- a number of four bytes
abbrev pub four : ℕ → List ℕ
four n = (n % 256) ∷ (n / 256 % 256) ∷ (n / 65536 % 256) ∷ (n / 16777216 % 256) ∷ []

-- a number of eight bytes
abbrev pub eight : ℕ → List ℕ
eight n =
    (n % 256) ∷ (n / 256 % 256) ∷ (n / 65536 % 256) ∷ (n / 16777216 % 256)
    ∷ (n / 4294967296 % 256) ∷ (n / 1099511627776 % 256) ∷ (n / 281474976710656 % 256) ∷ (n / 72057594037927936 % 256) ∷ []

-- the number in the first four bytes
abbrev pub number_in : List ℕ → ℕ
number_in bs = slice_index bs 0 + slice_index bs 1 * 256 + slice_index bs 2 * 65536 + slice_index bs 3 * 16777216

-- the number in the first eight
abbrev pub wide_in : List ℕ → ℕ
wide_in bs = number_in bs + number_in (drop 4 bs) * 4294967296

-- bytes are below 256
abbrev pub Bytes : List ℕ → Type 0
Bytes bs = (i : ℕ) → slice_index bs i < 256

-- the list ys in the place of what xs has from a place on; all else of xs stays
unfoldable pub placed : List ℕ → ℕ → List ℕ → List ℕ
placed xs at ys = take at xs ++ (ys ++ drop (at + length ys) xs)

-- numbers of four bytes, one after another
abbrev pub fours : List ℕ → List ℕ
fours [] = []
fours (n ∷ ns) = four n ++ fours ns

-- the first n numbers of four bytes
abbrev pub numbers_in : ℕ → List ℕ → List ℕ
numbers_in zero bs = []
numbers_in (suc n) bs = number_in bs ∷ numbers_in n (drop 4 bs)
