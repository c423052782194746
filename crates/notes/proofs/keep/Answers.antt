use Rattle.std.proofs.Common.{ℕ, List, sym, ◌∙◌, ap₂}
use Rattle.notes.specs.Notes.{filled, set_of_line, length_of_line}
use Rattle.notes.proofs.Notes.{all_filled_none, all_filled_taken, all_filled_passed}
use Rattle.notes.proofs.keep.Goals as goal
use Rattle.notes.proofs.keep.Goals.{then-has, else-has}

pub loop-line-init : goal.loop-line-init
loop-line-init c = sym (all_filled_none c.args.side c.args.lines (set_of_line c.args.found.now) (length_of_line c.args.found.now) 0 c.args.note.now)

pub loop-line-preserved : goal.loop-line-preserved
loop-line-preserved c =
    let f : ℕ → ℕ = set_of_line c.args.found.now in
    let g : ℕ → ℕ = length_of_line c.args.found.now in
    elim c.if-has.branch [
      | then-has w ↦
          w.note-is ∙ w.fill.ensures
          ∙ ap₂ (λ (p : ℕ) (ws : List ℕ). filled c.args.side p (f c.loop-line.line) (g c.loop-line.line) ws) w.place.ensures.is c.loop-line.invariant
          ∙ sym (all_filled_taken c.args.side c.args.lines f g c.loop-line.line c.args.note.now (sym w.if-has.ensures))
      | else-has w ↦
          w.note-is ∙ c.loop-line.invariant
          ∙ sym (all_filled_passed c.args.side c.args.lines f g c.loop-line.line c.args.note.now (sym w.if-has.ensures))
    ]
