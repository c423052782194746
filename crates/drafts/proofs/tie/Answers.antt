use Rattle.std.proofs.Common.{◌<◌, ◌≤◌, ◌⊎◌, get_or, sym, subst, inl, inr}
use lib.Bits.{and_mask}
use Rattle.desks.proofs.Answered.{tie_refused, tie_taken}
use Rattle.desks.specs.Memory.{Sound}
use Rattle.desks.proofs.Sounds.{sound_tie_changed}
use Rattle.drafts.proofs.Steps.{tied}
use Rattle.drafts.proofs.tie.Goals as goal
use Rattle.drafts.proofs.tie.Goals.{then-from-memory-via-then-from-memory, then-from-memory-via-else-from-memory+then-from-memory-2}

pub returns-then-from-memory : goal.returns-then-from-memory
returns-then-from-memory c =
    let m = c.args.memory.now in
    let t = c.args.treadle in
    let s = c.args.shaft in
    let why : (get_or m 1 0 ≤ t) ⊎ (get_or m 0 0 ≤ s) =
    elim c.then-from-memory.branch [
      | then-from-memory-via-then-from-memory w ↦ inl (subst (λ x. get_or m 1 0 ≤ x) c.from.ensures w.if-from-memory.true)
      | then-from-memory-via-else-from-memory+then-from-memory-2 w ↦ inr (subst (λ x. get_or m 0 0 ≤ x) w.from-else-from-memory.ensures w.if-from-memory-2.true)
    ] in
    record { replies = λ can q. tie_refused can m t s q why; sound = c.requires }

pub returns : goal.returns
returns c =
    let m = c.args.memory.now in
    let t = c.args.treadle in
    let s = c.args.shaft in
    let lt : t < get_or m 1 0 = subst (λ x. x < get_or m 1 0) c.from.ensures c.if-from-memory.false in
    let ls : s < get_or m 0 0 = subst (λ x. x < get_or m 0 0) c.from-else-from-memory.ensures c.if-from-memory-2.false in
    let is = tied t s m c.record_change.new.head c.requires lt ls c.record_change.ensures in
    record { replies = λ can q. tie_taken can m t s _ _ q c.requires lt ls (and_mask _ 1) is; sound = subst Sound (sym is) (sound_tie_changed t s m c.requires lt ls) }
