use Rattle.std.proofs.Common.{◌<◌}
use Rattle.drafts.proofs.Steps.{row_turned, tie_turned_is}
use Rattle.drafts.proofs.turn_back.Goals as goal

pub returns-in-Row : goal.returns-in-Row
returns-in-Row c = rw c.in-Row.is (row_turned c.in-Row.which c.slot_at-at.result c.slot_before.result c.args.head.now c.slot_at-at.ensures c.slot_before.ensures)

pub returns-in-Tie : goal.returns-in-Tie
returns-in-Tie c =
    let few : (c.in-Tie.treadle < 64) × (c.in-Tie.shaft < 64) = rw c.in-Tie.is at c.requires.some in
    rw c.in-Tie.is (tie_turned_is c.in-Tie.treadle c.in-Tie.shaft c.args.head.now few.1)
