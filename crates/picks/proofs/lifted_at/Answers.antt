use Rattle.std.proofs.Common.{◌∙◌}
use Rattle.weave.specs.Cloth.{treadle_of}
use Rattle.lent.specs.Shows.{draft_in}
use Rattle.lent.proofs.Shown.{shown, shown_treadle, told_treadle}
use Rattle.picks.proofs.lifted_at.Goals as goal

pub bounds-draft-number_at : goal.bounds-draft-number_at
bounds-draft-number_at c =
    let l = c.args.draft in
    rw (c.number_at.ensures.written ∙ told_treadle (draft_in l) l (shown l) c.args.pick) (shown_treadle (draft_in l) l (shown l) c.args.pick)

pub returns : goal.returns
returns c = λ d w s h.
    rw (c.number_at.ensures.written ∙ told_treadle d c.args.draft w c.args.pick) (w.tied (treadle_of d c.args.pick) s (shown_treadle d c.args.draft w c.args.pick) h)
