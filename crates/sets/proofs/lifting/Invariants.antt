use Rattle.std.proofs.Common.{◌≡◌, ℕ, ◌&&◌, ltb, get_or}
use Rattle.lent.specs.Bits.{bit}
use Rattle.sets.proofs.lifting.Given as goal

abbrev pub invariant-loop-t : goal.invariant-loop-t
invariant-loop-t l = (n : ℕ) → bit l.treadles n ≡ (ltb n l.t && bit (get_or l.draft.ties.now n 0) l.shaft)
