use Rattle.std.proofs.Common.{ℕ, Bool, refl, ap, ◌∙◌}
use Rattle.weave.specs.Rows.{pick}
use Rattle.desks.specs.Memory.{desk_of}
use Rattle.desks.proofs.Asked.{cell_told}
use Rattle.session.specs.Session.{stage}
use Rattle.session.proofs.Asked.{as_number}
use Rattle.session.proofs.cell.Goals as goal

pub returns : goal.returns
returns c =
    cell_told stage c.args.desk.words.now refl c.args.pick c.args.end c.from.result
    (c.from.ensures ∙ (as_number c.cell.result ∙ ap (λ (b : Bool). pick {A = ℕ} b 1 0) (c.cell.ensures (desk_of c.args.desk.words.now).now c.lent.ensures)))
