use Rattle.std.proofs.Common.{◌≤◌, arith}
use Rattle.weave.specs.Rows.{times, long}
use Rattle.lent.specs.Bits.{bit}
use Rattle.rows.specs.Rows.{row_in}
use Rattle.rows.proofs.Parts.{size_then, size_times, size_turned}
use Rattle.sets.proofs.Numbers.{below_then, below_times, below_turned, below_run}
use Rattle.runs.proofs.Lists.{one_found, then_found, times_found, turned_found, row_short, times_short}
use Rattle.runs.proofs.+runs_in.Goals as goal

pub runs_in-requires : goal.runs_in-requires
runs_in-requires t c =
    let s = rw (c.in-Then.ensures, size_then) at c.decreases in
    (omega arith, (below_then 64 _ _ (rw c.in-Then.ensures at c.requires)).0)

pub runs_in-requires-in-Then : goal.runs_in-requires-in-Then
runs_in-requires-in-Then t c =
    let s = rw (c.in-Then.ensures, size_then) at c.decreases in
    (omega arith, (below_then 64 _ _ (rw c.in-Then.ensures at c.requires)).1)

pub join-requires-clause-this : goal.join-requires-clause-this
join-requires-clause-this t c = row_short (bit c.args.set) (row_in c.in-Then.first) _ c.in-Then.first.begins.small.short c.runs_in.ensures

pub join-requires-clause-next : goal.join-requires-clause-next
join-requires-clause-next t c = row_short (bit c.args.set) (row_in c.in-Then.second) _ c.in-Then.second.begins.small.short c.runs_in-in-Then.ensures

pub runs_in-requires-in-Times : goal.runs_in-requires-in-Times
runs_in-requires-in-Times t c =
    let s = rw (c.in-Times.ensures, size_times) at c.decreases in
    (omega arith, below_times 64 _ _ (rw c.in-Times.ensures at c.requires))

pub repeat-requires-clause-this : goal.repeat-requires-clause-this
repeat-requires-clause-this t c = row_short (bit c.args.set) (row_in c.in-Times.inner) _ c.in-Times.inner.begins.small.short c.runs_in-in-Times.ensures

pub repeat-requires-clause-long : goal.repeat-requires-clause-long
repeat-requires-clause-long t c =
    let s : long (times c.in-Times.n (row_in c.in-Times.inner)) ≤ 16777216 = rw c.in-Times.ensures at c.args.row.begins.small.short in
    times_short (bit c.args.set) c.in-Times.n (row_in c.in-Times.inner) _ s c.runs_in-in-Times.ensures

pub runs_in-requires-in-Turned : goal.runs_in-requires-in-Turned
runs_in-requires-in-Turned t c =
    let s = rw (c.in-Turned.ensures, size_turned) at c.decreases in
    (omega arith, below_turned 64 _ (rw c.in-Turned.ensures at c.requires))

pub along-requires-clause-from : goal.along-requires-clause-from
along-requires-clause-from t c = (below_run 64 _ _ (rw c.in-Run.ensures at c.requires)).0

pub along-requires-clause-to : goal.along-requires-clause-to
along-requires-clause-to t c = (below_run 64 _ _ (rw c.in-Run.ensures at c.requires)).1

pub returns-in-One : goal.returns-in-One
returns-in-One t c = rw c.in-One.ensures (one_found (bit c.args.set) _ _ _ c.has.ensures c.one.ensures)

pub returns-in-Then : goal.returns-in-Then
returns-in-Then t c = rw c.in-Then.ensures (then_found (bit c.args.set) _ _ _ _ _ c.runs_in.ensures c.runs_in-in-Then.ensures c.join.ensures)

pub returns-in-Times : goal.returns-in-Times
returns-in-Times t c =
    rw c.in-Times.ensures (times_found (bit c.args.set) c.in-Times.n _ _ _ (rw c.in-Times.ensures at c.args.row.begins.small.some) c.runs_in-in-Times.ensures c.repeat.ensures)

pub returns-in-Turned : goal.returns-in-Turned
returns-in-Turned t c = rw c.in-Turned.ensures (turned_found (bit c.args.set) _ _ _ c.runs_in-in-Turned.ensures c.turn.ensures)
