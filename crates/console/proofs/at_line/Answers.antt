use Rattle.std.proofs.Common.{◌≡◌, arith}
use Rattle.wire.specs.declared.Refusal.TheVariants.{Unreadable}
use Rattle.console.proofs.Telling.{no_refusal, other_refusal, unread_at}
use Rattle.console.proofs.at_line.Goals as goal

pub returns-in-Refused-Unreadable : goal.returns-in-Refused-Unreadable
returns-in-Refused-Unreadable c =
    let u = c.in-Refused-Unreadable in
    let f : u.field-0 ≡ Unreadable u.field-0-0 = rw u.is at u.field-0-is in
    rw (u.is, f) (unread_at c.args.line u.field-0-0)

pub returns-in_default : goal.returns-in_default
returns-in_default c =
    rw c.in_default.is (other_refusal c.args.line c.in_default.field-0 (λ p e. grind arith))

pub returns-in_default-2 : goal.returns-in_default-2
returns-in_default-2 c = no_refusal c.args.line c.args.answer (λ r e. grind arith)
