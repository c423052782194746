use Rattle.std.proofs.Common.{◌++◌}
use Rattle.encoding.specs.Rows.{row_bytes}
use Rattle.encoding.proofs.Heads.{one_head, then_head, times_head, turned_head, run_head, has_part}
use Rattle.rowprint.proofs.Shaping.{too_deep, one_shape, run_shape, times_shape, turned_shape, then_shape, times_inside, turned_inside, then_inside}
use Rattle.rowprint.proofs.+shape.Goals as goal

pub returns-then-deep-eq0-clause-told : goal.returns-then-deep-eq0-clause-told
returns-then-deep-eq0-clause-told t c = λ r rest e f h. too_deep r c.args.deep c.if-deep-eq0.true h

pub returns-in_err-rest-clause-told : goal.returns-in_err-rest-clause-told
returns-in_err-rest-clause-told t c = λ r rest e f h. absurd (has_part r c.args.row.now rest c.in_err-rest.ensures e)

pub returns-in-One-clause-told : goal.returns-in-One-clause-told
returns-in-One-clause-told t c = λ r rest e f h.
    let o = rw c.in-One.is at c.in_ok-rest.ensures in
    let p = one_head c.args.row.now rest _ _ o.0 o.1 r e f in
    (one_shape r _ p.0, p.1)

pub returns-in-Run-clause-told : goal.returns-in-Run-clause-told
returns-in-Run-clause-told t c = λ r rest e f h.
    let o = rw c.in-Run.is at c.in_ok-rest.ensures in
    let p = run_head c.args.row.now rest _ _ _ o.0 o.1 o.2 r e f in
    (run_shape r _ _ p.0, p.1)

pub returns-in_ok-rest-in-Times-clause-told : goal.returns-in_ok-rest-in-Times-clause-told
returns-in_ok-rest-in-Times-clause-told t c = λ r rest e f h.
    let o = rw c.in-Times.is at c.in_ok-rest.ensures in
    let p = times_head c.args.row.now rest _ _ o.0 o.1 r e f in
    let i = times_inside r _ p.0 _ p.1 f h in
    (times_shape r _ _ p.1, (c.in_ok-rest-in-Times.ensures.told p.0 rest p.2 i.0 i.1).1)

pub returns-in_err-rest-in-Times-clause-told : goal.returns-in_err-rest-in-Times-clause-told
returns-in_err-rest-in-Times-clause-told t c = λ r rest e f h.
    let o = rw c.in-Times.is at c.in_ok-rest.ensures in
    let p = times_head c.args.row.now rest _ _ o.0 o.1 r e f in
    let i = times_inside r _ p.0 _ p.1 f h in
    absurd (c.in_err-rest-in-Times.ensures.told p.0 rest p.2 i.0 i.1)

pub returns-in_ok-rest-in-Turned-clause-told : goal.returns-in_ok-rest-in-Turned-clause-told
returns-in_ok-rest-in-Turned-clause-told t c = λ r rest e f h.
    let o = rw c.in-Turned.is at c.in_ok-rest.ensures in
    let p = turned_head c.args.row.now rest _ o r e in
    let i = turned_inside r p.0 _ p.1 f h in
    (turned_shape r _ p.1, (c.in_ok-rest-in-Turned.ensures.told p.0 rest p.2 i.0 i.1).1)

pub returns-in_err-rest-in-Turned-clause-told : goal.returns-in_err-rest-in-Turned-clause-told
returns-in_err-rest-in-Turned-clause-told t c = λ r rest e f h.
    let o = rw c.in-Turned.is at c.in_ok-rest.ensures in
    let p = turned_head c.args.row.now rest _ o r e in
    let i = turned_inside r p.0 _ p.1 f h in
    absurd (c.in_err-rest-in-Turned.ensures.told p.0 rest p.2 i.0 i.1)

pub returns-in_err-first-in-Then-clause-told : goal.returns-in_err-first-in-Then-clause-told
returns-in_err-first-in-Then-clause-told t c = λ r rest e f h.
    let o = rw c.in-Then.is at c.in_ok-rest.ensures in
    let p = then_head c.args.row.now rest _ o r e in
    let i = then_inside r p.0 p.1 _ p.2 f h in
    absurd (c.in_err-first-in-Then.ensures.told p.0 (row_bytes p.1 ++ rest) p.3 i.0 i.1)

pub returns-in_err-second-in-Then-clause-told : goal.returns-in_err-second-in-Then-clause-told
returns-in_err-second-in-Then-clause-told t c = λ r rest e f h.
    let o = rw c.in-Then.is at c.in_ok-rest.ensures in
    let p = then_head c.args.row.now rest _ o r e in
    let i = then_inside r p.0 p.1 _ p.2 f h in
    let a = c.in_ok-first-in-Then.ensures.told p.0 (row_bytes p.1 ++ rest) p.3 i.0 i.1 in
    absurd (c.in_err-second-in-Then.ensures.told p.1 rest a.1 i.2 i.3)

pub returns-in_ok-second-in-Then-clause-told : goal.returns-in_ok-second-in-Then-clause-told
returns-in_ok-second-in-Then-clause-told t c = λ r rest e f h.
    let o = rw c.in-Then.is at c.in_ok-rest.ensures in
    let p = then_head c.args.row.now rest _ o r e in
    let i = then_inside r p.0 p.1 _ p.2 f h in
    let a = c.in_ok-first-in-Then.ensures.told p.0 (row_bytes p.1 ++ rest) p.3 i.0 i.1 in
    let b = c.in_ok-second-in-Then.ensures.told p.1 rest a.1 i.2 i.3 in
    (then_shape r p.0 p.1 _ _ _ p.2 a.0 b.0 c.in_halves.ensures, b.1)
