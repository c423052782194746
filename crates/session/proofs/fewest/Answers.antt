use Rattle.std.proofs.Common.{refl}
use Rattle.desks.specs.Memory.{desk_of}
use Rattle.desks.proofs.Asked.{fewest_told}
use Rattle.session.specs.Session.{stage}
use Rattle.session.proofs.fewest.Goals as goal

pub returns : goal.returns
returns c =
    fewest_told stage c.args.desk.words.now refl _ _ (c.fewest-needed.ensures.shafts (desk_of c.args.desk.words.now).now c.lent.ensures)
    (c.fewest-needed.ensures.treadles (desk_of c.args.desk.words.now).now c.lent.ensures)
