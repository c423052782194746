use Rattle.std.proofs.Common.{◌≡◌, ℕ, ◌+◌, ◌-◌, ◌*◌, ◌++◌, map, ap, ◌∙◌, arith, rules}
use Rattle.std.proofs.Output.{has_written_append, has_written_of_eq}
use Rattle.encoding.specs.Answers.{bits_in}
use Rattle.answertext.specs.Answers.{cell_text}
use Rattle.answertext.proofs.Putting.{cells_more, cells_two, cells_end}
use Rattle.answertext.proofs.CellsDisplay.fmt.Goals as goal

pub loop-k-preserved : goal.loop-k-preserved
loop-k-preserved g c =
    let bs = c.args.self.now.bits.now in (
      c.loop-k.invariant.0,
      λ p.
          let h = c.loop-k.invariant.1 p in (
            h.0 ++ c.two_cells.result.now,
            has_written_append _ _ _ _ _ _ h.1 (search rules),
            cells_two bs c.min-shown.result (2 * c.loop-k.k) (2 * (c.loop-k.k + 1)) _ h.0 _ _ _ (omega arith) (omega arith) h.2
                (ap cell_text c.bit_at-first.ensures) (ap cell_text c.bit_at-second.ensures) (ap (λ l. h.0 ++ l) c.two_cells.ensures),
          ),
    )

pub returns-in_ok-write_str-2-clause-writes : goal.returns-in_ok-write_str-2-clause-writes
returns-in_ok-write_str-2-clause-writes g c = λ p ok.
    let bs = c.args.self.now.bits.now in
    let n = c.min-shown.result in
    let h = c.loop-k.invariant.1 p in
    let at : 2 * c.loop-k.k ≡ n - 1 = omega arith in
    let last = cells_more bs n (n - 1) _ h.0 (h.0 ++ c.one_cell.result.now) _ (omega arith) (rw at at h.2) (ap cell_text c.bit_at.ensures) (ap (λ l. h.0 ++ l) c.one_cell.ensures) in
    has_written_of_eq _ _ _ _ _
    (cells_end bs n (n - 1 + 1) _ (h.0 ++ c.one_cell.result.now) (omega arith) last ∙ ap (λ (m : ℕ). map cell_text (bits_in bs m)) c.loop-k.invariant.0)
    (has_written_append _ _ _ _ _ _ h.1 (search rules))

pub returns-else-shown-eq1-clause-writes : goal.returns-else-shown-eq1-clause-writes
returns-else-shown-eq1-clause-writes g c = λ p ok.
    let bs = c.args.self.now.bits.now in
    let h = c.loop-k.invariant.1 p in
    has_written_of_eq _ _ _ _ _
    (cells_end bs c.min-shown.result (2 * c.loop-k.k) _ h.0 (omega arith) h.2 ∙ ap (λ (n : ℕ). map cell_text (bits_in bs n)) c.loop-k.invariant.0) h.1
