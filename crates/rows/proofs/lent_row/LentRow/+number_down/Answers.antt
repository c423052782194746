use Rattle.std.proofs.Common.{sym, ap, ◌∙◌, arith}
use Rattle.std.proofs.lemmas.Nat.{mod_below}
use Rattle.weave.specs.Promise.{number_at}
use Rattle.rows.specs.Rows.{row_in}
use Rattle.rows.proofs.Parts.{size_then, size_times, size_turned, long_then, long_turned, at_one, at_first, at_second, at_times, at_turned}
use Rattle.rows.proofs.Told.{some_told}
use Rattle.rows.proofs.lent_row.LentRow.+number_down.Goals as goal

pub number_down-requires : goal.number_down-requires
number_down-requires t c =
    let s = rw (c.in-Then.ensures, size_then) at c.decreases in
    (omega arith, omega (arith, c.length-n.ensures))

pub number_down-requires-else-i-n : goal.number_down-requires-else-i-n
number_down-requires-else-i-n t c =
    let s = rw (c.in-Then.ensures, size_then) at c.decreases in
    let l = rw (c.in-Then.ensures, long_then) at c.requires in
    (omega arith, omega (arith, c.length-n.ensures))

pub nonzero_rem-i : goal.nonzero_rem-i
nonzero_rem-i t c = omega (arith, c.length.ensures, some_told _ c.in-Times.inner.begins)

pub number_down-requires-in-Times : goal.number_down-requires-in-Times
number_down-requires-in-Times t c =
    let s = rw (c.in-Times.ensures, size_times) at c.decreases in
    (omega arith, rw c.length.ensures (mod_below c.args.i _ (some_told _ c.in-Times.inner.begins)))

pub overflow_sub-length : goal.overflow_sub-length
overflow_sub-length t c = omega (arith, c.length-in-Turned.ensures, some_told _ c.in-Turned.inner.begins)

pub overflow_sub-length-in-Turned : goal.overflow_sub-length-in-Turned
overflow_sub-length-in-Turned t c =
    let l = rw (c.in-Turned.ensures, long_turned) at c.requires in
    omega (arith, c.length-in-Turned.ensures)

pub number_down-requires-in-Turned : goal.number_down-requires-in-Turned
number_down-requires-in-Turned t c =
    let s = rw (c.in-Turned.ensures, size_turned) at c.decreases in
    (omega arith, omega (arith, c.length-in-Turned.ensures, some_told _ c.in-Turned.inner.begins))

pub returns-in-One : goal.returns-in-One
returns-in-One t c = rw c.in-One.ensures (sym (at_one _ c.args.i))

pub returns-then-i-n : goal.returns-then-i-n
returns-then-i-n t c = rw c.in-Then.ensures (c.number_down.ensures ∙ sym (at_first _ _ c.args.i (omega (arith, c.length-n.ensures))))

pub returns-else-i-n : goal.returns-else-i-n
returns-else-i-n t c =
    rw c.in-Then.ensures ((rw c.length-n.ensures at c.number_down-else-i-n.ensures) ∙ sym (at_second _ _ c.args.i (omega (arith, c.length-n.ensures))))

pub returns-in-Times : goal.returns-in-Times
returns-in-Times t c = rw c.in-Times.ensures ((rw c.length.ensures at c.number_down-in-Times.ensures) ∙ sym (at_times _ _ c.args.i))

pub returns-in-Turned : goal.returns-in-Turned
returns-in-Turned t c =
    rw c.in-Turned.ensures (c.number_down-in-Turned.ensures ∙ ap (number_at (row_in c.in-Turned.inner)) (omega (arith, c.length-in-Turned.ensures)) ∙ sym (at_turned _ c.args.i))
