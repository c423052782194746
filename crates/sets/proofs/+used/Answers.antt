use Rattle.std.proofs.Common.{rules, ◌||◌, sym, ◌∙◌, ap₂, arith}
use Rattle.rows.proofs.Parts.{size_then, size_times, size_turned}
use Rattle.sets.proofs.Members.{bit-bit_or, bit_one}
use Rattle.sets.proofs.Numbers.{below_one, below_then, below_times, below_turned, below_run, among_one, among_then, among_times, among_turned}
use Rattle.sets.proofs.+used.Goals as goal

pub overflow_shl-result : goal.overflow_shl-result
overflow_shl-result t c = below_one 64 _ (rw c.in-One.ensures at c.requires)

pub used-requires : goal.used-requires
used-requires t c =
    let s = rw (c.in-Then.ensures, size_then) at c.decreases in
    (omega arith, (below_then 64 _ _ (rw c.in-Then.ensures at c.requires)).0)

pub used-requires-in-Then : goal.used-requires-in-Then
used-requires-in-Then t c =
    let s = rw (c.in-Then.ensures, size_then) at c.decreases in
    (omega arith, (below_then 64 _ _ (rw c.in-Then.ensures at c.requires)).1)

pub used-requires-in-Times : goal.used-requires-in-Times
used-requires-in-Times t c = search (rules, size_times, size_turned, below_times, below_turned)

pub run_set-requires : goal.run_set-requires
run_set-requires t c =
    let h = below_run 64 _ _ (rw c.in-Run.ensures at c.requires) in
    record { from = h.0; to = h.1 }

pub returns-in-One : goal.returns-in-One
returns-in-One t c = λ n.
    let k = below_one 64 _ (rw c.in-One.ensures at c.requires) in
    rw c.in-One.ensures (bit_one c.in-One.n n k ∙ sym (among_one n c.in-One.n))

pub returns-in-Then : goal.returns-in-Then
returns-in-Then t c = λ n.
    rw c.in-Then.ensures
    (bit-bit_or c.used.result c.used-in-Then.result n
    ∙ ap₂ ◌||◌ (c.used.ensures n) (c.used-in-Then.ensures n)
    ∙ sym (among_then n _ _))

pub returns-in-Times : goal.returns-in-Times
returns-in-Times t c = λ n. search (rules, among_times, among_turned)
