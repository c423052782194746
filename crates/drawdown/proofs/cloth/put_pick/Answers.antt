use Rattle.std.proofs.Common.{◌≡◌, ℕ, ◌+◌, ◌-◌, [], ◌∷◌, ◌++◌, map, string_bytes, ap, ◌∙◌, arith}
use Rattle.std.proofs.lemmas.Result.{on_ok_weaker}
use Rattle.weave.specs.Calls.{cells_of}
use Rattle.answertext.specs.Answers.{cell_text}
use Rattle.drawdown.proofs.Cells.{no_cells, cells_more}
use Rattle.drawdown.proofs.cloth.put_pick.Goals as goal
use Rattle.drawdown.proofs.cloth.put_pick.Goals.{else-loop-end-test, then-loop-end-test+in_ok-put_cells+else-end-end-end-gt1024}

pub loop-end-init : goal.loop-end-init
loop-end-init c = (omega arith, omega arith, λ d s. no_cells d c.args.pick c.args.ends.from (c.args.ends.from - c.args.ends.from) (string_bytes c.args.text.now) (omega arith))

pub loop-end-preserved : goal.loop-end-preserved
loop-end-preserved c = (
  omega arith,
  omega arith,
  λ d s.
      cells_more d c.args.pick c.args.ends.from c.loop-end.end c.min-count.result (c.loop-end.end + 1024) (string_bytes c.args.text.now) (string_bytes c.loop-end.text) (string_bytes c.put_cells.new.text)
      c.loop-end.invariant.0 (omega arith) (c.loop-end.invariant.2 d s) (c.in_ok-put_cells.ensures d s),
)

pub returns : goal.returns
returns c =
    on_ok_weaker c.writeln.result
    (λ is d s.
    is
    ∙ ap (λ l. l ++ (10 ∷ []))
    (elim c.loop-end-test.branch [
      | else-loop-end-test w ↦
          let all : c.loop-end.end - c.args.ends.from ≡ c.args.ends.to - c.args.ends.from = omega arith in
          ap (λ t. string_bytes t) w.text-is ∙ c.loop-end.invariant.2 d s ∙ ap (λ (n : ℕ). string_bytes c.args.text.now ++ map cell_text (cells_of d c.args.pick c.args.ends.from n)) all
      | then-loop-end-test+in_ok-put_cells+else-end-end-end-gt1024 w ↦
          ap (λ t. string_bytes t) w.text-is
          ∙ cells_more d c.args.pick c.args.ends.from c.loop-end.end w.min-count.result c.args.ends.to (string_bytes c.args.text.now) (string_bytes c.loop-end.text) (string_bytes w.put_cells.new.text)
          c.loop-end.invariant.0 (omega arith) (c.loop-end.invariant.2 d s) (w.in_ok-put_cells.ensures d s)
    ]))
    c.writeln.ensures.bytes
