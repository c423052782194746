use Rattle.std.proofs.Common.{ℕ, ◌/◌, ◌^◌, eqb, ap, ◌∙◌}
use Rattle.std.proofs.lemmas.Nat.{and_mask}
use Rattle.weave.specs.Cloth.{shaft_of}
use Rattle.lent.specs.Shows.{draft_in}
use Rattle.lent.proofs.Shown.{shown, shown_shaft, told_shaft}
use Rattle.picks.proofs.cell.Goals as goal

pub overflow_shr-result : goal.overflow_shr-result
overflow_shr-result c =
    let l = c.args.draft in
    rw (c.number_at.ensures.written ∙ told_shaft (draft_in l) l (shown l) c.args.end) (shown_shaft (draft_in l) l (shown l) c.args.end)

pub returns : goal.returns
returns c = λ d w.
    rw (c.number_at.ensures.written ∙ told_shaft d c.args.draft w c.args.end)
    (ap (λ (x : ℕ). eqb x 1) (and_mask (c.lifted_at.result / 2 ^ shaft_of d c.args.end) 1)
    ∙ c.lifted_at.ensures d w (shaft_of d c.args.end) (shown_shaft d c.args.draft w c.args.end))
