use Rattle.std.proofs.Common.{◌+◌, ◌-◌, ◌/◌, ◌^◌, sym, refl, ap, ◌∙◌, arith}
use Rattle.std.proofs.lemmas.Nat.{and_le_r}
use Rattle.std.proofs.lemmas.Bool.{eq-eqb, ne_eqb}
use Rattle.lent.specs.Bits.{bit}
use Rattle.runs.specs.Found.{runs_of}
use Rattle.runs.proofs.Bits.{left_first, left_few, left_some, left_less, left_none, bit_number, run_up_written, span_members}
use Rattle.runs.proofs.upward.Goals as goal

pub loop-left-init : goal.loop-left-init
loop-left-init c = left_first (λ i. span_members c.args.set c.run_set.result c.args.from c.args.to i c.requires.up c.run_set.ensures)

pub overflow_sub-width : goal.overflow_sub-width
overflow_sub-width c = left_some c.loop-left.invariant (omega arith)

pub overflow_add-front : goal.overflow_add-front
overflow_add-front c = let few = left_few c.loop-left.invariant in omega (arith, few.0, and_le_r (c.loop-left.left / 2 ^ c.args.from) 1)

pub overflow_add-back-in-loop-left : goal.overflow_add-back-in-loop-left
overflow_add-back-in-loop-left c =
    let few = left_few c.loop-left.invariant in
    omega (arith, few.1, and_le_r (c.loop-left.left / 2 ^ (c.args.from + (c.loop-left.width - 1))) 1)

pub overflow_add-longest : goal.overflow_add-longest
overflow_add-longest c = let few = left_few c.loop-left.invariant in omega (arith, few.2)

pub loop-left-smaller : goal.loop-left-smaller
loop-left-smaller c = let some = left_some c.loop-left.invariant (omega arith) in omega arith

pub loop-left-preserved : goal.loop-left-preserved
loop-left-preserved c =
    let some = left_some c.loop-left.invariant (omega arith) in
    rw (bit_number c.loop-left.left c.args.from, bit_number c.loop-left.left (c.args.from + (c.loop-left.width - 1)))
    (left_less c.loop-left.invariant (omega arith) (omega arith) refl)

pub returns-then-front-numbers : goal.returns-then-front-numbers
returns-then-front-numbers c =
    rw (eq-eqb _ _ c.if-front-numbers.true) at (left_none c.loop-left.invariant (omega arith))
    ∙ ap (runs_of (bit c.args.set)) (sym (run_up_written c.args.from c.args.to c.requires.up))

pub returns-else-front-numbers : goal.returns-else-front-numbers
returns-else-front-numbers c =
    rw (ne_eqb _ _ c.if-front-numbers.false) at (left_none c.loop-left.invariant (omega arith))
    ∙ ap (runs_of (bit c.args.set)) (sym (run_up_written c.args.from c.args.to c.requires.up))
