-- How a desk, the draft there is and those before, is told by slots of rows, a tie-up and a log of what changed.
use Rattle.std.specs.Prelude.{ℕ, zero, suc, ◌+◌, ◌*◌, ◌/◌, ◌%◌, ◌^◌, List, [], ◌∷◌, map, take, ◌==◌, bit_xor, slice_index, slice_set}
use Rattle.weave.specs.Rows.{pick, Row}
use Rattle.weave.specs.Cloth.{Draft}
use Rattle.weave.specs.Calls.{Desk}
use Rattle.lent.specs.Bits.{bits_of}
use Rattle.desks.specs.declared.Which.{Which}
use Rattle.desks.specs.declared.Which.TheVariants.{Threading, Treadling}

-- slots go round: the one after the last is the first
abbrev pub slot_after : ℕ → ℕ → ℕ
slot_after last k = pick (k == last) 0 (suc k)

abbrev pub slot_before : ℕ → ℕ → ℕ
slot_before last zero = last
slot_before last (suc k) = k

-- a word for each treadle, its shafts as bits, with one tie turned
abbrev pub with_tie : List ℕ → ℕ → ℕ → List ℕ
with_tie ties t s = slice_set ties t (bit_xor (slice_index ties t) (2 ^ s))

-- where a draft is: the slots of its rows, and its ties
pub record Place : Type 0 where
  pub slot : Which → ℕ
  pub ties : List ℕ

-- another slot for one of the rows
abbrev pub with_slot : Which → ℕ → (Which → ℕ) → Which → ℕ
with_slot Threading k f Threading = k
with_slot Threading k f Treadling = f Treadling
with_slot Treadling k f Threading = f Threading
with_slot Treadling k f Treadling = k

-- what the log has of a change: 0 the threading, 1 the treadling, from 2 on a tie
abbrev pub row_number : Which → ℕ
row_number Threading = 0
row_number Treadling = 1

abbrev pub tie_number : ℕ → ℕ → ℕ
tie_number t s = suc (suc (t * 64 + s))

-- where the draft was before a change
abbrev pub slot_back : ℕ → Place → Which → Place
slot_back last p w = record { slot = with_slot w (slot_before last (p.slot w)) p.slot; ties = p.ties }

unfoldable pub before : ℕ → Place → ℕ → Place
before last p zero = slot_back last p Threading
before last p (suc zero) = slot_back last p Treadling
before last p (suc (suc k)) = record { slot = p.slot; ties = with_tie p.ties (k / 64) (k % 64) }

unfoldable pub places : ℕ → Place → List ℕ → List Place
places last p [] = []
places last p (e ∷ es) = before last p e ∷ places last (before last p e) es

-- the limits, and which row is in a slot
pub record Slots : Type 0 where
  pub shafts : ℕ
  pub treadles : ℕ
  pub undos : ℕ
  pub row_in : Which → ℕ → Row

unfoldable pub draft_in : Slots → Place → Draft
draft_in v p =
    record {
      threading = v.row_in Threading (p.slot Threading);
      tied = map (bits_of v.shafts) (take v.treadles p.ties);
      treadling = v.row_in Treadling (p.slot Treadling);
    }

unfoldable pub desk_in : Slots → Place → List ℕ → Desk
desk_in v p es = record { now = draft_in v p; past = map (draft_in v) (places v.undos p es) }

-- a draft with another threading or treadling
abbrev pub with_row : Which → Row → Draft → Draft
with_row Threading r d = record { threading = r; tied = d.tied; treadling = d.treadling }
with_row Treadling r d = record { threading = d.threading; tied = d.tied; treadling = r }
