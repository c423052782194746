use Rattle.std.proofs.Common.{ℕ, sym, ◌∙◌, arith}
use Rattle.lent.specs.Shows.{draft_in}
use Rattle.lent.proofs.Shown.{shown}
use Rattle.tieup.proofs.Counting.{counting_starts, counting_few, counting_used, counting_takes, counting_passes}
use Rattle.tieup.proofs.different.Goals as goal
use Rattle.tieup.proofs.different.Goals.{then-has, else-has}

pub loop-line-init : goal.loop-line-init
loop-line-init g c = λ d w s. counting_starts s.same (g.L.Lines.uses d) c.in_use-left.result (c.in_use-left.ensures d w)

pub like-requires : goal.like-requires
like-requires g c =
    let d = draft_in c.args.used.draft in
    let w = shown c.args.used.draft in
    let s = g.met.L.Lines.sorted d c.args.used.draft w in
    counting_used s.same (g.L.Lines.uses d) c.loop-line.line c.loop-line.different c.loop-line.left (c.loop-line.invariant d w s) c.loop-line-test.true (sym c.has.ensures ∙ c.if-has.true)

pub overflow_add-different : goal.overflow_add-different
overflow_add-different g c =
    let d = draft_in c.args.used.draft in
    let w = shown c.args.used.draft in
    let s = g.met.L.Lines.sorted d c.args.used.draft w in
    omega (arith, counting_few s.same (g.L.Lines.uses d) c.loop-line.line c.loop-line.different c.loop-line.left (c.loop-line.invariant d w s))

pub loop-line-preserved : goal.loop-line-preserved
loop-line-preserved g c = λ d w s.
    let counting = c.loop-line.invariant d w s in
    let n : ℕ = c.loop-line.line in
    elim c.if-has.branch [
      | then-has way ↦
          rw (way.left-is, way.different-is)
          (counting_takes s.same (g.L.Lines.uses d) n c.loop-line.different c.loop-line.left counting c.loop-line-test.true (sym c.has.ensures ∙ way.if-has.true) way.like.result way.like.type_inv
          (λ m h. way.like.ensures d w m h ∙ s.alike_is n m))
      | else-has way ↦
          rw (way.left-is, way.different-is)
          (counting_passes s.same (g.L.Lines.uses d) n c.loop-line.different c.loop-line.left counting c.loop-line-test.true s.kinds (sym c.has.ensures ∙ way.if-has.false))
    ]
