use Rattle.std.proofs.Common.{ap, ◌∙◌}
use Rattle.desks.specs.Memory.{change_recorded}
use Rattle.drafts.proofs.Steps.{recorded}
use Rattle.drafts.proofs.record_change.Goals as goal

pub returns : goal.returns
returns c =
    recorded c.from.result c.one_more.result c.args.head.now c.push.new.log c.requires c.one_more.ensures c.push.ensures ∙ ap (λ e. change_recorded e c.args.head.now) c.from.ensures
