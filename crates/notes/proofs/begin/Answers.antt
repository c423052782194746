use Rattle.std.proofs.Common.{sym}
use Rattle.notes.specs.Notes.{begun}
use Rattle.notes.proofs.begin.Goals as goal

pub returns-then-not-tells : goal.returns-then-not-tells
unfolding begun
returns-then-not-tells c = rw (sym c.if-not-tells.ensures, c.filled_at.ensures, c.filled_at-then-not-tells.ensures)

pub returns-else-not-tells : goal.returns-else-not-tells
unfolding begun
returns-else-not-tells c = rw (sym c.if-not-tells.ensures)
