use Rattle.std.proofs.Common.{ℕ, refl, ap, ◌∙◌}
use native.Mathlib.Nat.{min-eq_left}
use Rattle.encoding.specs.Answers.{bits_in}
use Rattle.desks.specs.Memory.{desk_of}
use Rattle.desks.proofs.Asked.{part_refused, part_told}
use Rattle.session.specs.Session.{stage}
use Rattle.session.proofs.part.Goals as goal

pub returns-in-None : goal.returns-in-None
returns-in-None c = part_refused stage c.args.desk.words.now refl c.args.pick c.args.end c.args.count c.in-None.ensures

pub returns-in-Some : goal.returns-in-Some
returns-in-Some c =
    let told = c.in-Some.ensures in
    part_told stage c.args.desk.words.now refl c.args.pick c.args.end c.args.count _ told.0
    (ap (λ (k : ℕ). bits_in c.in-Some.bits k) (min-eq_left told.0) ∙ told.1 (desk_of c.args.desk.words.now).now c.lent.ensures)
