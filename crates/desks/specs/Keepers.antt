-- What opening leaves in the memory, what a call is answered, and what is promised of both.
use Rattle.std.specs.Prelude.{◌≡◌, ℕ, zero, suc, ◌+◌, ◌-◌, ◌*◌, ◌≤◌, Bool, true, ◌&&◌, List, [], ◌∷◌, ◌++◌, length, take, drop, replicate, ◌==◌, nat_le, nat_lt, slice_index}
use Rattle.weave.specs.Rows.{pick, one}
use Rattle.weave.specs.Calls.{Call, hangs, Answer, Limits, Desk, refused, call_number, turned_at, place, told, after}
use Rattle.weave.specs.Promise.{Keeper, readable}
use Rattle.rows.specs.Words.{row_words}
use Rattle.layering.specs.Topmost.{layers_told}
use Rattle.desks.specs.Memory.{undos_at, slots_at, row_part, asked, desk_of, limits_of, next_words, Sound}

-- the row of one number, 0, and room behind it
abbrev pub new_row : List ℕ
new_row = row_words (one 0) ++ replicate (row_part - 2) 0

unfoldable pub new_rows : ℕ → List ℕ
new_rows zero = []
new_rows (suc n) = new_row ++ new_rows n

-- a new desk: the limits, nothing to undo, both rows in slot 0, nothing lifted, and in each slot two new rows
abbrev pub new_head : ℕ → ℕ → ℕ → List ℕ
new_head shafts treadles undos = shafts ∷ (treadles ∷ (undos ∷ replicate (slots_at - 3) 0))

unfoldable pub opened_words : ℕ → ℕ → ℕ → List ℕ
opened_words shafts treadles undos = new_head shafts treadles undos ++ new_rows (2 * (undos + 1))

-- what is told where there is no choice, and of layers the topmost
unfoldable pub tells : Limits → Desk → Call → Answer
tells l d c = pick (call_number c == call_number hangs) (layers_told l.shafts l.treadles d.now) (told d c)

unfoldable pub answer : (ℕ → Bool) → List ℕ → Call → Answer
answer can m c =
    pick (turned_at (limits_of can m) (desk_of m) c == 0)
    (tells (limits_of can m) (desk_of m) c)
    (refused (turned_at (limits_of can m) (desk_of m) c) (place c (turned_at (limits_of can m) (desk_of m) c)))

-- a call on the words m that was answered by a and left the words n
pub record Replied (can : ℕ → Bool) (m : List ℕ) (c : Call) (a : Answer) (n : List ℕ) : Type 0 where
  pub says : a ≡ answer can m c
  pub leaves : n ≡ next_words can m c

abbrev pub keeper : (ℕ → Bool) → Keeper
keeper can =
    record {
      opened = λ l. record { words = opened_words l.shafts l.treadles l.undos };
      next = λ m c. record { words = next_words can m.words c };
      says = λ m c. answer can m.words c;
    }

-- at every stage the words after a call are sound, with the same limits, and tell the desk that the call leaves
abbrev pub Follows : Type 0
Follows =
    (can : ℕ → Bool) (m : List ℕ) (c : Call) → Sound m → readable c ≡ true →
    Sound (next_words can m c) × (limits_of can (next_words can m c) ≡ limits_of can m) × (desk_of (next_words can m c) ≡ after (limits_of can m) (desk_of m) c)

abbrev pub in_range : ℕ → ℕ → ℕ → Bool
in_range shafts treadles undos = (nat_lt 0 shafts && nat_le shafts 64) && ((nat_lt 0 treadles && nat_le treadles 64) && nat_le undos 256)

-- of lent memory a desk has the front, as many words as it asked for
abbrev pub front : List ℕ → List ℕ
front m = take (asked (slice_index m undos_at)) m

abbrev pub behind : List ℕ → List ℕ
behind m = drop (asked (slice_index m undos_at)) m

pub record LentDesk (m : List ℕ) : Type 0 where
  pub room : asked (slice_index m undos_at) ≤ length m
  pub sound : Sound (front m)
