-- How a row lies in words: two for each part, a row's own part before those of the rows in it; and the row that words tell.
use Rattle.std.specs.Prelude.{◌≡◌, ℕ, zero, suc, ◌+◌, ◌*◌, ◌/◌, ◌%◌, ◌≤◌, true, List, [], ◌∷◌, ◌++◌, drop, slice_index}
use Rattle.weave.specs.Rows.{Row, one, then, times, turned, run, long, size, deep, some_each}
use Rattle.weave.specs.Promise.{fields_in}

-- the first word of a part: its kind, how many parts its first row has, how long it is
abbrev pub head_word : ℕ → ℕ → ℕ → ℕ
head_word kind left n = kind + 8 * left + 4294967296 * n

-- the second: two numbers
abbrev pub two_numbers : ℕ → ℕ → ℕ
two_numbers a b = a + 4294967296 * b

unfoldable pub row_words : Row → List ℕ
row_words (one n) = head_word 0 0 1 ∷ (two_numbers n 0 ∷ [])
row_words (then r s) = head_word 1 (size r) (long (then r s)) ∷ (two_numbers 0 0 ∷ (row_words r ++ row_words s))
row_words (times n r) = head_word 2 0 (long (times n r)) ∷ (two_numbers n 0 ∷ row_words r)
row_words (turned r) = head_word 3 0 (long (turned r)) ∷ (two_numbers 0 0 ∷ row_words r)
row_words (run a b) = head_word 4 0 (long (run a b)) ∷ (two_numbers a b ∷ [])

-- a row small enough to be kept so
pub record Small (r : Row) : Type 0 where
  pub some : some_each r ≡ true
  pub fields : fields_in r ≡ true
  pub few : size r ≤ 256
  pub shallow : deep r ≤ 32
  pub short : long r ≤ 16777216

-- words that begin with a row
pub record Begins (r : Row) (ws : List ℕ) : Type 0 where
  pub small : Small r
  pub rest : List ℕ
  pub is : ws ≡ row_words r ++ rest

abbrev pub by_kind : {A : Type 0} → ℕ → A → A → A → A → A → A
by_kind zero a b c d e = a
by_kind (suc zero) a b c d e = b
by_kind (suc (suc zero)) a b c d e = c
by_kind (suc (suc (suc zero))) a b c d e = d
by_kind (suc (suc (suc (suc k)))) a b c d e = e

-- the row that words begin with, at most so deep
unfoldable pub row_of : ℕ → List ℕ → Row
row_of zero ws = one 0
row_of (suc d) ws =
    by_kind (slice_index ws 0 % 8)
    (one (slice_index ws 1 % 4294967296))
    (then (row_of d (drop 2 ws)) (row_of d (drop (2 * (slice_index ws 0 % 4294967296 / 8)) (drop 2 ws))))
    (times (slice_index ws 1 % 4294967296) (row_of d (drop 2 ws)))
    (turned (row_of d (drop 2 ws)))
    (run (slice_index ws 1 % 4294967296) (slice_index ws 1 / 4294967296))

-- words that begin with the row that they tell
pub record IsRow (ws : List ℕ) : Type 0 where
  pub small : Small (row_of 32 ws)
  pub is : ws ≡ row_words (row_of 32 ws) ++ drop (2 * size (row_of 32 ws)) ws

-- words tell their row
abbrev pub ToldByWords : Type 0
ToldByWords = (d : ℕ) (r : Row) (ws : List ℕ) → Begins r ws → deep r ≤ d → row_of d ws ≡ r
