use Rattle.std.proofs.Common.{rules}
use Rattle.rowtext.proofs.Counts.{counted_item, counted_none, counted_open, counted_close, counted_end, counted_all}
use Rattle.rowtext.proofs.count_items.Goals as goal
use Rattle.rowtext.proofs.count_items.Goals.{in-Open, in-Close+else-inside-eq0, in-Times, in-Times-2, in-Times-3, in-Number}

pub returns-then-inside-eq0 : goal.returns-then-inside-eq0
returns-then-inside-eq0 c = counted_end c.args.tokens.now c.loop-token.token-index c.loop-token.items c.loop-token.inside c.loop-token.invariant c.loop-token-test.true c.in-Close.is c.if-inside-eq0.true

pub loop-token-preserved : goal.loop-token-preserved
loop-token-preserved c =
    let l = c.loop-token in
    let all = c.args.tokens.now in
    let some = c.loop-token-test.true in
    elim c.match-token.branch [
      | in-Open w ↦ rw (w.items-is, w.inside-is, w.one_more-items.ensures) (counted_open all l.token-index l.items l.inside l.invariant some w.in-Open.is)
      | in-Close+else-inside-eq0 w ↦ rw (w.items-is, w.inside-is) (counted_close all l.token-index l.items l.inside l.invariant some w.in-Close.is (search rules))
      | in-Times w ↦ rw (w.items-is, w.inside-is) (counted_none all l.token-index l.items l.inside l.invariant some w.in-Times.is)
      | in-Times-2 w ↦ rw (w.items-is, w.inside-is) (counted_none all l.token-index l.items l.inside l.invariant some w.in-Times.is)
      | in-Times-3 w ↦ rw (w.items-is, w.inside-is) (counted_none all l.token-index l.items l.inside l.invariant some w.in-Times.is)
      | in-Number w ↦ rw (w.items-is, w.inside-is, w.one_more-items-in-Number.ensures) (counted_item all l.token-index l.items l.inside l.invariant some w.in-Number.is)
    ]

pub returns : goal.returns
returns c = counted_all c.args.tokens.now c.loop-token.token-index c.loop-token.items c.loop-token.inside c.loop-token.invariant c.loop-token-test.false
