-- A row's note: what was found about the row, in words. The first has the slot of the row that it tells of, the second the numbers that the row uses, as a set, or 0 where nothing is noted. Two words
-- have the places that are filled, on the face and on the back; each side has 64 places, each for a set of numbers and for how long the row goes on with them. Assumes nothing: these are definitions.
use Rattle.std.specs.Prelude.{◌≡◌, ℕ, zero, suc, ◌+◌, ◌*◌, ◌%◌, ◌^◌, ◌<◌, Bool, true, ◌&&◌, List, Some, None, Option, ◌==◌, bit_or, nat_lt, slice_index, slice_index_or, slice_set}
use Rattle.weave.specs.Rows.{pick, Row, written}
use Rattle.weave.specs.Cloth.{among}
use Rattle.weave.proofs.Runs.{longest_round}
use Rattle.lent.specs.Bits.{bit}
use Rattle.notes.specs.declared.Found.{Found}
use Rattle.notes.specs.declared.Side.{Side}
use Rattle.notes.specs.declared.Side.TheVariants.{Face, Back}

abbrev pub note_words : ℕ
note_words = 260

abbrev pub of_at : ℕ
of_at = 0

abbrev pub used_at : ℕ
used_at = 1

abbrev pub places : ℕ
places = 64

abbrev pub side_number : Side → ℕ
side_number Face = 0
side_number Back = 1

abbrev pub filled_at : Side → ℕ
filled_at s = 2 + side_number s

abbrev pub set_at : Side → ℕ → ℕ
set_at s p = 4 + places * side_number s + p

abbrev pub length_at : Side → ℕ → ℕ
length_at s p = 132 + places * side_number s + p

-- the numbers below n that pass, as a set
unfoldable pub set_of : ℕ → (ℕ → Bool) → ℕ
set_of zero f = 0
set_of (suc n) f = set_of n f + pick (f n) (2 ^ n) 0

-- the numbers that a row uses
abbrev pub used_set : Row → ℕ
used_set r = set_of 64 (λ n. among n (written r))

-- all that is noted is true of a row
pub record Known (r : Row) (ws : List ℕ) : Type 0 where
  pub used : slice_index_or ws used_at 0 ≡ used_set r
  pub lengths : (s : Side) (p : ℕ) → p < places → bit (slice_index ws (filled_at s)) p ≡ true → slice_index ws (length_at s p) ≡ longest_round (bit (slice_index ws (set_at s p))) (written r)

-- and so it is where the note tells of the row, which is in slot k
abbrev pub Tells : ℕ → Row → List ℕ → Type 0
Tells k r ws = slice_index ws of_at ≡ k → 0 < slice_index ws used_at → Known r ws

abbrev pub tells : ℕ → List ℕ → Bool
tells k ws = slice_index ws of_at == k && nat_lt 0 (slice_index ws used_at)

-- a note begun for the row in slot k, which uses the numbers u, unless it tells of that row already
unfoldable pub begun : ℕ → ℕ → List ℕ → List ℕ
begun k u ws = pick (tells k ws) ws (slice_set (slice_set (slice_set (slice_set ws of_at k) used_at u) (filled_at Face) 0) (filled_at Back) 0)

-- the place of a line's set, where a line is a shaft or a treadle, and these are the used ones: the fewer there are, the more places each has
abbrev pub place_of : ℕ → ℕ → ℕ → ℕ
place_of lines line x = pick (nat_lt lines 16) (line + 4 * (x % 15)) (pick (nat_lt lines 256) (line + 8 * (x % 7)) (pick (nat_lt lines 65536) (line + 16 * (x % 3)) line))

-- how long the row goes on with the set x, if that is noted at place p
abbrev pub recalled : Side → ℕ → ℕ → List ℕ → Option ℕ
recalled s p x ws = pick (bit (slice_index ws (filled_at s)) p && slice_index ws (set_at s p) == x) (Some (slice_index ws (length_at s p))) None

-- place p filled: the row goes on with the set x for n
abbrev pub filled : Side → ℕ → ℕ → ℕ → List ℕ → List ℕ
filled s p x n ws = slice_set (slice_set (slice_set ws (filled_at s) (bit_or (slice_index ws (filled_at s)) (2 ^ p))) (set_at s p) x) (length_at s p) n

-- the places of the used lines below n filled, with the set of each, and how long the row goes on with it
unfoldable pub all_filled : Side → ℕ → (ℕ → ℕ) → (ℕ → ℕ) → ℕ → List ℕ → List ℕ
all_filled s lines f g zero ws = ws
all_filled s lines f g (suc n) ws =
    pick (bit lines n) (filled s (place_of lines n (f n)) (f n) (g n) (all_filled s lines f g n ws)) (all_filled s lines f g n ws)

-- of what was found of each line the set, and the length
abbrev pub set_of_line : List Found → ℕ → ℕ
set_of_line fs n = (slice_index_or fs n (record { set = 0; length = 0 })).set

abbrev pub length_of_line : List Found → ℕ → ℕ
length_of_line fs n = (slice_index_or fs n (record { set = 0; length = 0 })).length
