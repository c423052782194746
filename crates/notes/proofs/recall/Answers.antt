use Rattle.std.proofs.Common.{sym, arith}
use Rattle.notes.proofs.Notes.{noted_short}
use Rattle.notes.proofs.recall.Goals as goal

pub overflow_cast-result : goal.overflow_cast-result
overflow_cast-result c =
    let known = c.requires.note in
    let h = noted_short c.args.side c.place-place.result known.0 c.args.note.now known.1 known.2 c.place-place.ensures.few (rw c.filled_at.ensures at (sym c.if-has.ensures)) in
    rw c.length_at.ensures (omega arith)
