use Rattle.std.proofs.Common.{◌≡◌, ℕ, ◌<◌, not, ◌&&◌, get_or}
use Rattle.lent.specs.Bits.{bit}
use Rattle.tieup.proofs.Ties.{differ}
use Rattle.tieup.proofs.ShaftsLines.like.Given as goal

-- left are the used shafts that no used treadle before t has lifted otherwise than this one
abbrev pub invariant-loop-t : goal.invariant-loop-t
invariant-loop-t l =
    (n : ℕ) → n < 64
    → bit l.alike n
    ≡ (bit l.used.shafts n && not (differ (bit l.used.treadles) (λ k. bit (get_or l.used.draft.ties.now k 0) l.shaft) (λ k. bit (get_or l.used.draft.ties.now k 0) n) l.t))
