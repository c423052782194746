use Rattle.std.proofs.Common.{refl}
use Rattle.weave.specs.Calls.{hangs, together}
use Rattle.desks.specs.Memory.{desk_of}
use Rattle.desks.proofs.Asked.{hangs_told, together_told, topmost_bytes}
use Rattle.session.specs.Session.{stage}
use Rattle.session.proofs.Asked.{sent}
use Rattle.session.proofs.hangs.Goals as goal

pub returns-in_default : goal.returns-in_default
returns-in_default c =
    sent c.args.desk.words.now c.args.desk.words.now hangs together (together_told stage c.args.desk.words.now c.args.desk.sound refl (c.in_default.ensures (desk_of c.args.desk.words.now).now c.lent.ensures))

pub returns : goal.returns
returns c =
    let told = c.in-Some.ensures (desk_of c.args.desk.words.now).now c.lent.ensures in
    record {
      bytes = topmost_bytes stage c.args.desk.words.now c.args.desk.sound refl c.in-Some.layer.shafts c.in-Some.layer.treadles told.0 told.1;
      leaves = (hangs_told stage c.args.desk.words.now refl).leaves;
    }
