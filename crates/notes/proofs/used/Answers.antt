use Rattle.std.proofs.Common.{eqb, ltb, get_or, sym}
use Rattle.std.proofs.lemmas.Bool.{and_parts, eqb-true, ltb-true}
use Rattle.rows.specs.Rows.{row_in}
use Rattle.notes.proofs.Notes.{used_is}
use Rattle.notes.proofs.used.Goals as goal

pub returns-then-tells : goal.returns-then-tells
returns-then-tells c =
    let slot = get_or c.args.note.now 0 0 in
    let noted = get_or c.args.note.now 1 0 in
    let p = and_parts (eqb slot c.args.slot) (ltb 0 noted) (sym c.if-tells.ensures) in
    (c.requires.note (eqb-true slot c.args.slot p.0) (ltb-true 0 noted p.1)).used

pub returns-else-tells : goal.returns-else-tells
returns-else-tells c = used_is (row_in c.args.row) c.used.result c.requires.row c.used.ensures
