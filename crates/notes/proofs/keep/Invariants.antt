use Rattle.std.proofs.Common.{◌≡◌}
use Rattle.notes.specs.Notes.{all_filled, set_of_line, length_of_line}
use Rattle.notes.proofs.keep.Given as goal

abbrev pub invariant-loop-line : goal.invariant-loop-line
invariant-loop-line l = l.note ≡ all_filled l.side l.lines (set_of_line l.found) (length_of_line l.found) l.line l.initial.note
