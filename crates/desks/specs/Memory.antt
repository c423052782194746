-- How the lent memory is laid out, what it tells, and what calls write into it.
use Rattle.std.specs.Prelude.{◌≡◌, ℕ, zero, suc, ◌+◌, ◌-◌, ◌*◌, ◌/◌, ◌%◌, ◌^◌, ◌<◌, ◌≤◌, Bool, true, List, ◌∷◌, ◌++◌, length, take, drop, ◌==◌, bit_xor, nat_lt, slice_index, slice_index_or, slice_set}
use Rattle.weave.specs.Rows.{pick, Row}
use Rattle.weave.specs.Calls.{Call, threads, treadles, ties, back, cell, part, floats, fewest, hangs, garbled, Limits, Desk, good_row, turned_at}
use Rattle.encoding.specs.Numbers.{placed}
use Rattle.rows.specs.Words.{row_words, IsRow, row_of}
use Rattle.desks.specs.declared.Which.{Which}
use Rattle.desks.specs.declared.Which.TheVariants.{Threading, Treadling}
use Rattle.desks.specs.Desks.{slot_after, slot_before, row_number, tie_number, Place, Slots, desk_in}

-- the head: the limits, how many changes can be undone now, the slot of the threading, that of the treadling, and two spare words
abbrev pub shafts_at : ℕ
shafts_at = 0

abbrev pub treadles_at : ℕ
treadles_at = 1

abbrev pub undos_at : ℕ
undos_at = 2

abbrev pub undoable_at : ℕ
undoable_at = 3

abbrev pub threading_slot_at : ℕ
threading_slot_at = 4

abbrev pub treadling_slot_at : ℕ
treadling_slot_at = 5

-- the tie-up, a word for each treadle, its shafts as bits
abbrev pub ties_at : ℕ
ties_at = 8

abbrev pub ties_room : ℕ
ties_room = 64

-- the log of what changed, the newest first
abbrev pub log_at : ℕ
log_at = 72

abbrev pub log_room : ℕ
log_room = 256

-- the slots: in each a threading and a treadling, and behind each of the two what will be kept of it
abbrev pub slots_at : ℕ
slots_at = 328

abbrev pub row_room : ℕ
row_room = 512

abbrev pub kept_room : ℕ
kept_room = 63

abbrev pub row_part : ℕ
row_part = row_room + kept_room

abbrev pub slot_words : ℕ
slot_words = 2 * row_part

-- how many words a desk asks for
abbrev pub asked : ℕ → ℕ
asked undos = slots_at + slot_words * (undos + 1)

-- of the threading or the treadling: where its limit is, and the number of its slot; where the row in a slot is
abbrev pub limit_at : Which → ℕ
limit_at Threading = shafts_at
limit_at Treadling = treadles_at

abbrev pub slot_at : Which → ℕ
slot_at Threading = threading_slot_at
slot_at Treadling = treadling_slot_at

abbrev pub row_at : Which → ℕ → ℕ
row_at w k = slots_at + slot_words * k + row_part * row_number w

-- so many words from a place on
abbrev pub words_at : ℕ → ℕ → List ℕ → List ℕ
words_at a k m = take k (drop a m)

abbrev pub slots_of : List ℕ → Slots
slots_of m =
    record { shafts = slice_index m shafts_at; treadles = slice_index m treadles_at; undos = slice_index m undos_at; row_in = λ w k. row_of 32 (words_at (row_at w k) row_room m) }

abbrev pub place_of : List ℕ → Place
place_of m = record { slot = λ w. slice_index m (slot_at w); ties = words_at ties_at ties_room m }

abbrev pub log_of : List ℕ → List ℕ
log_of m = take (slice_index m undoable_at) (words_at log_at log_room m)

-- the desk that the memory tells
unfoldable pub desk_of : List ℕ → Desk
desk_of m = desk_in (slots_of m) (place_of m) (log_of m)

abbrev pub limits_of : (ℕ → Bool) → List ℕ → Limits
limits_of can m = record { calls_can = can; shafts = slice_index m shafts_at; treadles = slice_index m treadles_at; undos = slice_index m undos_at }

-- a change recorded: one more can be undone, up to so many, and the log has it first
abbrev pub one_more : ℕ → ℕ → ℕ
one_more most n = pick (nat_lt n most) (suc n) n

abbrev pub one_more_undoable : List ℕ → List ℕ
one_more_undoable m = slice_set m undoable_at (one_more (slice_index m undos_at) (slice_index m undoable_at))

abbrev pub log_with : ℕ → List ℕ → List ℕ
log_with e m = e ∷ take (log_room - 1) (words_at log_at log_room m)

unfoldable pub change_recorded : ℕ → List ℕ → List ℕ
change_recorded e m = placed (one_more_undoable m) log_at (log_with e m)

-- a tie turned
abbrev pub tie_turned : ℕ → ℕ → List ℕ → List ℕ
tie_turned t s m = slice_set m (ties_at + t) (bit_xor (slice_index m (ties_at + t)) (2 ^ s))

unfoldable pub tie_changed : ℕ → ℕ → List ℕ → List ℕ
tie_changed t s m = change_recorded (tie_number t s) (tie_turned t s m)

-- a row in a slot, and the slot's number in the head; a new row goes into the slot after that of the row before
abbrev pub row_put : Which → ℕ → Row → List ℕ → List ℕ
row_put w k r m = slice_set (placed m (row_at w k) (row_words r)) (slot_at w) k

abbrev pub next_slot : Which → List ℕ → ℕ
next_slot w m = slot_after (slice_index m undos_at) (slice_index m (slot_at w))

unfoldable pub row_changed : Which → Row → List ℕ → List ℕ
row_changed w r m = change_recorded (row_number w) (row_put w (next_slot w m) r m)

-- the newest change taken off the log
abbrev pub log_without : List ℕ → List ℕ
log_without m = drop 1 (words_at log_at log_room m) ++ take 1 (words_at log_at log_room m)

abbrev pub one_less_undoable : List ℕ → List ℕ
one_less_undoable m = slice_set m undoable_at (slice_index m undoable_at - 1)

abbrev pub change_forgotten : List ℕ → List ℕ
change_forgotten m = placed (one_less_undoable m) log_at (log_without m)

-- a change turned back
abbrev pub slot_turned_back : Which → List ℕ → List ℕ
slot_turned_back w m = slice_set m (slot_at w) (slot_before (slice_index m undos_at) (slice_index m (slot_at w)))

unfoldable pub turned_back : ℕ → List ℕ → List ℕ
turned_back zero m = slot_turned_back Threading m
turned_back (suc zero) m = slot_turned_back Treadling m
turned_back (suc (suc k)) m = tie_turned (k / 64) (k % 64) m

unfoldable pub undone : List ℕ → List ℕ
undone m = turned_back (slice_index m log_at) (change_forgotten m)

-- an entry of the log that is a tie is one of the n shafts and of the m treadles that there are
abbrev pub Entry : ℕ → ℕ → ℕ → Type 0
Entry n m e = 2 ≤ e → ((e - 2) / 64 < m) × ((e - 2) % 64 < n)

-- words that begin with a row that is good below a limit
abbrev pub IsGoodRow : ℕ → List ℕ → Type 0
IsGoodRow limit ws = IsRow ws × (good_row limit (row_of 32 ws) ≡ true)

-- memory as opening and calls leave it
pub record Sound (m : List ℕ) : Type 0 where
  pub long : length m ≡ asked (slice_index m undos_at)
  pub shafts : (0 < slice_index m shafts_at) × (slice_index m shafts_at ≤ 64)
  pub treadles : (0 < slice_index m treadles_at) × (slice_index m treadles_at ≤ 64)
  pub undos : slice_index_or m undos_at 0 ≤ 256
  pub undoable : slice_index_or m undoable_at 0 ≤ slice_index m undos_at
  pub slots : (w : Which) → slice_index m (slot_at w) ≤ slice_index m undos_at
  pub ties : (t : ℕ) → t < ties_room → slice_index m (ties_at + t) < 2 ^ slice_index m shafts_at
  pub entries : (i : ℕ) → i < log_room → Entry (slice_index m shafts_at) (slice_index m treadles_at) (slice_index m (log_at + i))
  pub rows : (w : Which) (k : ℕ) → k ≤ slice_index m undos_at → IsGoodRow (slice_index m (limit_at w)) (words_at (row_at w k) row_room m)

-- the call that enters a threading or a treadling
abbrev pub row_call : Which → Row → Call
row_call Threading r = threads r
row_call Treadling r = treadles r

-- what a call leaves that is not turned away
unfoldable pub changed : List ℕ → Call → List ℕ
changed m (threads r) = row_changed Threading r m
changed m (treadles r) = row_changed Treadling r m
changed m (ties t s) = tie_changed t s m
changed m back = undone m
changed m (cell r c) = m
changed m (part r c n) = m
changed m (floats k) = m
changed m fewest = m
changed m hangs = m
changed m (garbled n) = m

unfoldable pub next_words : (ℕ → Bool) → List ℕ → Call → List ℕ
next_words can m c = pick (turned_at (limits_of can m) (desk_of m) c == 0) (changed m c) m
