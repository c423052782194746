-- What opening leaves, and what a call is answered and leaves, of lent memory and bytes: by the keeper of the desk, by what bytes are which call, and by how an answer is written.
use Rattle.std.specs.Prelude.{◌≡◌, ℕ, ◌<◌, ◌≤◌, Bool, true, false, List, ◌++◌, length, drop, Ok, Err, Result}
use Rattle.weave.specs.Calls.{Call, refused}
use Rattle.weave.specs.Calls as weave
use Rattle.weave.specs.Promise.{Keeper, whole}
use Rattle.encoding.specs.Calls.{reads}
use Rattle.encoding.specs.Answers.{answer_bytes}
use Rattle.desks.specs.Memory.{asked, next_words}
use Rattle.desks.specs.Keepers.{answer, keeper, in_range, front, behind, LentDesk}
use Rattle.wire.specs.Answers.{number_of, place_of}
use Rattle.wire.specs.declared.Refusal.{Refusal}
use Rattle.drafts.specs.declared.Limits.{Limits}

-- which calls the desk can do: all
abbrev pub stage : ℕ → Bool
stage = whole

-- the keeper of this stage
abbrev pub desk_keeper : Keeper
desk_keeper = keeper stage

-- the limits as the keeper takes them
abbrev pub limits_of : Limits → weave.Limits
limits_of l = record { calls_can = stage; shafts = l.shafts; treadles = l.treadles; undos = l.undos }

-- a desk was opened: its words are in front, and behind them what was there
pub record Opened (l : Limits) (before after : List ℕ) : Type 0 where
  pub ranged : in_range l.shafts l.treadles l.undos ≡ true
  pub room : asked l.undos ≤ length before
  pub words : after ≡ (desk_keeper.opened (limits_of l)).words ++ drop (asked l.undos) before
  pub ready : LentDesk after

-- or none was: 3 at 1 for limits out of range, 3 at 0 for too little memory, and the memory is as it was
pub record NotOpened (l : Limits) (r : Refusal) (before after : List ℕ) : Type 0 where
  pub number : number_of r ≡ 3
  pub limits : in_range l.shafts l.treadles l.undos ≡ false → place_of r ≡ 1
  pub memory : in_range l.shafts l.treadles l.undos ≡ true → (place_of r ≡ 0) × (length before < asked l.undos)
  pub same : after ≡ before

abbrev pub Opening : {A : Type 0} → Limits → Result A Refusal → List ℕ → List ℕ → Type 0
Opening l (Ok x) before after = Opened l before after
Opening l (Err r) before after = NotOpened l r before after

-- a call on the words m that was answered by a, as bytes, and left the words n
pub record Answered (m : List ℕ) (c : Call) (a : weave.Answer) (n : List ℕ) : Type 0 where
  pub bytes : answer_bytes a ≡ answer_bytes (answer stage m c)
  pub leaves : n ≡ next_words stage m c

-- the answer to bytes, as bytes, of a desk in the front of lent words
abbrev pub says : List ℕ → List ℕ → List ℕ
says m bs = answer_bytes (desk_keeper.says (record { words = front m }) (reads bs))

-- the lent words after bytes
abbrev pub leaves : List ℕ → List ℕ → List ℕ
leaves m bs = (desk_keeper.next (record { words = front m }) (reads bs)).words ++ behind m

-- what bytes are answered, and what they leave, where a desk has the front of the words
pub record Told (m bs : List ℕ) (a : weave.Answer) (n : List ℕ) : Type 0 where
  pub bytes : answer_bytes a ≡ says m bs
  pub words : n ≡ leaves m bs
  pub ready : LentDesk n
