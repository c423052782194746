use Rattle.std.proofs.Common.{arith}
use Rattle.rows.proofs.Parts.{deep_some, deep_then, deep_times, deep_turned}
use Rattle.stored.proofs.Measures.{one_measured, then_first, then_next, times_not, turned_not}
use Rattle.stored.proofs.Sources.{has_source, one_top, then_top, times_top, turned_top, run_top}
use Rattle.stored.proofs.+measure.Goals as goal

pub overflow_sub-deepest : goal.overflow_sub-deepest
overflow_sub-deepest t c = omega (arith, deep_some c.requires.0)

pub unwrap-requires : goal.unwrap-requires
unwrap-requires t c = has_source _ _ _ _ c.requires.2 c.outermost.ensures

pub measure-requires : goal.measure-requires
measure-requires t c =
    let h = then_top _ c.in-Then.inner.now _ _ c.requires.2 (rw c.in-Then.ensures at c.outermost.ensures) in
    let d = rw h.2 at c.requires.3 in
    (omega (arith, deep_some c.requires.0), (h.0, _, h.3, omega (arith, d, deep_then h.0 h.1)))

pub measure-requires-in-Then : goal.measure-requires-in-Then
measure-requires-in-Then t c =
    let h = then_top _ c.in-Then.inner.now _ _ c.requires.2 (rw c.in-Then.ensures at c.outermost.ensures) in
    let s = rw c.in_ok-first-in-Then.was at (c.measure.ensures h.0 _ h.3) in
    let d = rw h.2 at c.requires.3 in
    (omega (arith, deep_some c.requires.0), (h.1, c.requires.1, record { fields = h.4; is = s.1 }, omega (arith, d, deep_then h.0 h.1)))

pub measure-requires-in-Times : goal.measure-requires-in-Times
measure-requires-in-Times t c =
    let h = times_top _ c.in-Times.inner.now _ _ c.requires.2 _ (rw c.in-Times.ensures at c.outermost.ensures) in
    let d = rw (h.1, deep_times) at c.requires.3 in
    (omega (arith, deep_some c.requires.0), (h.0, c.requires.1, h.2, omega (arith, d)))

pub measure-requires-in-Turned : goal.measure-requires-in-Turned
measure-requires-in-Turned t c =
    let h = turned_top _ c.in-Turned.inner.now _ _ c.requires.2 (rw c.in-Turned.ensures at c.outermost.ensures) in
    let d = rw (h.1, deep_turned) at c.requires.3 in
    (omega (arith, deep_some c.requires.0), (h.0, c.requires.1, h.2, omega (arith, d)))

pub returns-in_err-of_run-in-One : goal.returns-in_err-of_run-in-One
returns-in_err-of_run-in-One t c = λ r rest b.
    let h = one_top _ c.in-One.rest.now r rest b _ (rw c.in-One.ensures at c.outermost.ensures) in
    rw (c.from_residual.ensures, h.0) (rw c.in_err-of_run-in-One.was at (one_measured _ _ _ c.of_run.ensures))

pub returns-in_ok-of_run-in-One : goal.returns-in_ok-of_run-in-One
returns-in_ok-of_run-in-One t c = λ r rest b.
    let h = one_top _ c.in-One.rest.now r rest b _ (rw c.in-One.ensures at c.outermost.ensures) in
    (rw h.0 (rw c.in_ok-of_run-in-One.was at (one_measured _ _ _ c.of_run.ensures)), h.1)

pub returns-in_err-first-in-Then : goal.returns-in_err-first-in-Then
returns-in_err-first-in-Then t c = λ r rest b.
    let h = then_top _ c.in-Then.inner.now r rest b (rw c.in-Then.ensures at c.outermost.ensures) in
    rw (c.from_residual-in_err-first-in-Then.ensures, h.2) (then_first _ h.0 h.1 (rw c.in_err-first-in-Then.was at (c.measure.ensures h.0 _ h.3)))

pub returns-in_err-second-in-Then : goal.returns-in_err-second-in-Then
returns-in_err-second-in-Then t c = λ r rest b.
    let h = then_top _ c.in-Then.inner.now r rest b (rw c.in-Then.ensures at c.outermost.ensures) in
    let s = rw c.in_ok-first-in-Then.was at (c.measure.ensures h.0 _ h.3) in
    let u = rw c.in_err-second-in-Then.was at (c.measure-in-Then.ensures h.1 rest (record { fields = h.4; is = s.1 })) in
    rw (c.from_residual-in_err-second-in-Then.ensures, h.2) (then_next _ h.0 h.1 u)

pub returns-in_err-joined-in-Then : goal.returns-in_err-joined-in-Then
returns-in_err-joined-in-Then t c = λ r rest b.
    let h = then_top _ c.in-Then.inner.now r rest b (rw c.in-Then.ensures at c.outermost.ensures) in
    let s = rw c.in_ok-first-in-Then.was at (c.measure.ensures h.0 _ h.3) in
    let u = rw c.in_ok-second-in-Then.was at (c.measure-in-Then.ensures h.1 rest (record { fields = h.4; is = s.1 })) in
    rw (c.from_residual-in_err-joined-in-Then.ensures, h.2) (rw c.in_err-joined-in-Then.was at (c.joined.ensures _ h.0 h.1 s.0 u.0))

pub returns-in_ok-joined-in-Then : goal.returns-in_ok-joined-in-Then
returns-in_ok-joined-in-Then t c = λ r rest b.
    let h = then_top _ c.in-Then.inner.now r rest b (rw c.in-Then.ensures at c.outermost.ensures) in
    let s = rw c.in_ok-first-in-Then.was at (c.measure.ensures h.0 _ h.3) in
    let u = rw c.in_ok-second-in-Then.was at (c.measure-in-Then.ensures h.1 rest (record { fields = h.4; is = s.1 })) in
    (rw h.2 (rw c.in_ok-joined-in-Then.was at (c.joined.ensures _ h.0 h.1 s.0 u.0)), u.1)

pub returns-in_err-within-in-Times : goal.returns-in_err-within-in-Times
returns-in_err-within-in-Times t c = λ r rest b.
    let h = times_top _ c.in-Times.inner.now r rest b _ (rw c.in-Times.ensures at c.outermost.ensures) in
    rw (c.from_residual-in_err-within-in-Times.ensures, h.1) (times_not _ _ h.0 (rw c.in_err-within-in-Times.was at (c.measure-in-Times.ensures h.0 rest h.2)))

pub returns-in_err-repeated-in-Times : goal.returns-in_err-repeated-in-Times
returns-in_err-repeated-in-Times t c = λ r rest b.
    let h = times_top _ c.in-Times.inner.now r rest b _ (rw c.in-Times.ensures at c.outermost.ensures) in
    let s = rw c.in_ok-within-in-Times.was at (c.measure-in-Times.ensures h.0 rest h.2) in
    rw (c.from_residual-in_err-repeated-in-Times.ensures, h.1) (rw c.in_err-repeated-in-Times.was at (c.repeated.ensures _ h.0 s.0))

pub returns-in_ok-repeated-in-Times : goal.returns-in_ok-repeated-in-Times
returns-in_ok-repeated-in-Times t c = λ r rest b.
    let h = times_top _ c.in-Times.inner.now r rest b _ (rw c.in-Times.ensures at c.outermost.ensures) in
    let s = rw c.in_ok-within-in-Times.was at (c.measure-in-Times.ensures h.0 rest h.2) in
    (rw h.1 (rw c.in_ok-repeated-in-Times.was at (c.repeated.ensures _ h.0 s.0)), s.1)

pub returns-in_err-within-in-Turned : goal.returns-in_err-within-in-Turned
returns-in_err-within-in-Turned t c = λ r rest b.
    let h = turned_top _ c.in-Turned.inner.now r rest b (rw c.in-Turned.ensures at c.outermost.ensures) in
    rw (c.from_residual-in_err-within-in-Turned.ensures, h.1) (turned_not _ h.0 (rw c.in_err-within-in-Turned.was at (c.measure-in-Turned.ensures h.0 rest h.2)))

pub returns-in_err-turned-in-Turned : goal.returns-in_err-turned-in-Turned
returns-in_err-turned-in-Turned t c = λ r rest b.
    let h = turned_top _ c.in-Turned.inner.now r rest b (rw c.in-Turned.ensures at c.outermost.ensures) in
    let s = rw c.in_ok-within-in-Turned.was at (c.measure-in-Turned.ensures h.0 rest h.2) in
    rw (c.from_residual-in_err-turned-in-Turned.ensures, h.1) (rw c.in_err-turned-in-Turned.was at (c.turned.ensures _ h.0 s.0))

pub returns-in_ok-turned-in-Turned : goal.returns-in_ok-turned-in-Turned
returns-in_ok-turned-in-Turned t c = λ r rest b.
    let h = turned_top _ c.in-Turned.inner.now r rest b (rw c.in-Turned.ensures at c.outermost.ensures) in
    let s = rw c.in_ok-within-in-Turned.was at (c.measure-in-Turned.ensures h.0 rest h.2) in
    (rw h.1 (rw c.in_ok-turned-in-Turned.was at (c.turned.ensures _ h.0 s.0)), s.1)

pub returns-in_err-of_run-in-Run : goal.returns-in_err-of_run-in-Run
returns-in_err-of_run-in-Run t c = λ r rest b.
    let h = run_top _ c.in-Run.rest.now r rest b _ _ (rw c.in-Run.ensures at c.outermost.ensures) in
    rw (c.from_residual-in_err-of_run-in-Run.ensures, h.0) (rw c.in_err-of_run-in-Run.was at c.of_run-in-Run.ensures)

pub returns-in_ok-of_run-in-Run : goal.returns-in_ok-of_run-in-Run
returns-in_ok-of_run-in-Run t c = λ r rest b.
    let h = run_top _ c.in-Run.rest.now r rest b _ _ (rw c.in-Run.ensures at c.outermost.ensures) in
    (rw h.0 (rw c.in_ok-of_run-in-Run.was at c.of_run-in-Run.ensures), h.1)
