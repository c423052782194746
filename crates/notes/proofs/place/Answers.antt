use Rattle.std.proofs.Common.{arith}
use Rattle.std.proofs.lemmas.Bool.{lt-ltb, le-ltb}
use Rattle.notes.proofs.Notes.{place_below}
use Rattle.notes.proofs.place.Goals as goal

pub returns-then-lines-lt16 : goal.returns-then-lines-lt16
returns-then-lines-lt16 c =
    let t = lt-ltb c.args.lines 16 c.if-lines-lt16.true in
    record { is = rw t; few = rw t at (place_below c.args.lines c.args.line c.args.set (omega arith) c.requires) }

pub returns-then-lines-lt256 : goal.returns-then-lines-lt256
returns-then-lines-lt256 c =
    let s = le-ltb c.args.lines 16 c.if-lines-lt16.false in
    let t = lt-ltb c.args.lines 256 c.if-lines-lt256.true in
    record { is = rw (s, t); few = rw (s, t) at (place_below c.args.lines c.args.line c.args.set (omega arith) c.requires) }

pub returns-then-lines-lt65536 : goal.returns-then-lines-lt65536
returns-then-lines-lt65536 c =
    let s = le-ltb c.args.lines 16 c.if-lines-lt16.false in
    let t = le-ltb c.args.lines 256 c.if-lines-lt256.false in
    let u = lt-ltb c.args.lines 65536 c.if-lines-lt65536.true in
    record { is = rw (s, t, u); few = rw (s, t, u) at (place_below c.args.lines c.args.line c.args.set (omega arith) c.requires) }

pub returns-else-lines-lt65536 : goal.returns-else-lines-lt65536
returns-else-lines-lt65536 c =
    let s = le-ltb c.args.lines 16 c.if-lines-lt16.false in
    let t = le-ltb c.args.lines 256 c.if-lines-lt256.false in
    let u = le-ltb c.args.lines 65536 c.if-lines-lt65536.false in
    record { is = rw (s, t, u); few = rw (s, t, u) at (place_below c.args.lines c.args.line c.args.set (omega arith) c.requires) }
