use Rattle.std.proofs.Common.{ℕ, ap, sym, refl, ◌∙◌}
use Rattle.std.proofs.lemmas.Result.{err_from_is_err_and}
use Rattle.weave.specs.Calls.{longest}
use Rattle.desks.specs.Memory.{desk_of}
use Rattle.desks.proofs.Asked.{floats_refused, floats_told}
use Rattle.session.specs.Session.{stage}
use Rattle.session.proofs.Asked.{no_kind, some_kind}
use Rattle.session.proofs.floats.Goals as goal

pub returns-in_err-kind : goal.returns-in_err-kind
returns-in_err-kind c =
    let p = err_from_is_err_and c.from_residual.result c.from_residual.ensures.1 in
    let none = no_kind c.args.number c.try_from.result c.or.result c.in_err-kind.field-0.0 c.try_from.ensures c.or.ensures c.in_err-kind.was in
    rw (p.1, p.2, none.1) (floats_refused stage c.args.desk.words.now refl c.args.number none.0)

pub returns-in-Some : goal.returns-in-Some
returns-in-Some c =
    let kind = some_kind c.args.number c.try_from.result c.or.result c.in_ok-kind.kind c.try_from.ensures c.or.ensures c.in_ok-kind.was in
    let told = rw c.in-Some.is at (c.longest_float.ensures (desk_of c.args.desk.words.now).now c.lent.ensures) in
    floats_told stage c.args.desk.words.now refl c.args.number _ kind.0 (told.0 ∙ ap (λ (k : ℕ). longest (desk_of c.args.desk.words.now).now k) kind.1)

pub returns-in-None : goal.returns-in-None
returns-in-None c =
    let kind = some_kind c.args.number c.try_from.result c.or.result c.in_ok-kind.kind c.try_from.ensures c.or.ensures c.in_ok-kind.was in
    let told = rw c.in-None.is at (c.longest_float.ensures (desk_of c.args.desk.words.now).now c.lent.ensures) in
    floats_told stage c.args.desk.words.now refl c.args.number _ kind.0 (sym told ∙ ap (λ (k : ℕ). longest (desk_of c.args.desk.words.now).now k) kind.1)
