use Rattle.std.proofs.Common.{◌≡◌, ℕ, ◌<◌, eqb, get_or}
use lib.Bits.{bit_and}
use Rattle.lent.specs.Bits.{bit}
use Rattle.tieup.proofs.Ties.{kept}
use Rattle.tieup.proofs.TreadlesLines.like.Given as goal

-- left are the used treadles but for those before t that lift others
abbrev pub invariant-loop-t : goal.invariant-loop-t
invariant-loop-t l =
    (n : ℕ) → n < 64 → bit l.alike n ≡ kept (bit l.used.treadles n) (λ k. eqb (bit_and (get_or l.used.draft.ties.now k 0) l.used.shafts) l.lifted) l.t n
