-- Which answer a reply is, and what opening leaves.
use Rattle.std.specs.Prelude.{◌≡◌, ℕ, ◌<◌, ◌≤◌, Bool, true, false, List, ◌++◌, length, drop, Ok, Err, Result}
use Rattle.weave.specs.Calls.{Call, Answer, refused, number, call_number}
use Rattle.desks.specs.Memory.{asked}
use Rattle.desks.specs.Keepers.{Replied, in_range, opened_words, LentDesk}
use Rattle.wire.specs.Answers.{number_of, place_of}
use Rattle.wire.specs.declared.Refusal.{Refusal}
use Rattle.wire.specs.declared.Refusal.TheVariants.{Unreadable, NotThere, LimitsOutOfRange, TooLittleMemory, NothingToUndo}
use Rattle.drafts.specs.declared.Limits.{Limits}

-- a number, or the refusal
abbrev pub reply : Result ℕ Refusal → Answer
reply (Ok n) = number n
reply (Err r) = refused (number_of r) (place_of r)

-- the reply x to a call on the words m, which leaves the words n, at every stage that can do the call
abbrev pub Replies : Call → Result ℕ Refusal → List ℕ → List ℕ → Type 0
Replies c x m n = (can : ℕ → Bool) → can (call_number c) ≡ true → Replied can m c (reply x) n

-- opened: the words of a new desk in front, which is what calls ask for, and behind them what was there; or all as it was
pub record Opened (l : Limits) (m n : List ℕ) : Type 0 where
  pub ranged : in_range l.shafts l.treadles l.undos ≡ true
  pub room : asked l.undos ≤ length m
  pub words : n ≡ opened_words l.shafts l.treadles l.undos ++ drop (asked l.undos) m
  pub lent : LentDesk n

abbrev pub Opening : {A : Type 0} → Limits → Result A Refusal → List ℕ → List ℕ → Type 0
Opening l (Ok x) m n = Opened l m n
Opening l (Err (Unreadable p)) m n = ⊥
Opening l (Err NotThere) m n = ⊥
Opening l (Err LimitsOutOfRange) m n = (in_range l.shafts l.treadles l.undos ≡ false) × (n ≡ m)
Opening l (Err TooLittleMemory) m n = (in_range l.shafts l.treadles l.undos ≡ true) × (length m < asked l.undos) × (n ≡ m)
Opening l (Err NothingToUndo) m n = ⊥
