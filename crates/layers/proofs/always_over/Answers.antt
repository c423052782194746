use Rattle.std.proofs.Common.{sym, ◌∙◌, arith, below_more}
use Rattle.std.proofs.lemmas.Bool.{both_ways}
use Rattle.weave.proofs.Cloth.{used_below}
use Rattle.sets.proofs.Drafts.{uses_of, threading_below}
use Rattle.layers.proofs.always_over.Goals as goal
use Rattle.layers.proofs.always_over.Goals.{else-has-via-then-has+else-is_always_lifted, else-has-via-else-has}

pub loop-s-preserved : goal.loop-s-preserved
loop-s-preserved c = λ d w.
    let u = uses_of d c.args.used w in
    below_more _ c.loop-s.s (c.loop-s.invariant d w)
    (λ a.
    elim c.else-has.branch [
      | else-has-via-then-has+else-is_always_lifted x ↦ x.is_always_lifted.ensures.down d w x.if-is_always_lifted.false
      | else-has-via-else-has x ↦ absurd (both_ways _ (sym c.has.ensures ∙ x.if-has.false) (u.shafts c.loop-s.s ∙ a))
    ])

pub returns-then-is_always_lifted : goal.returns-then-is_always_lifted
returns-then-is_always_lifted c = λ d w.
    let u = uses_of d c.args.used w in
    (sym (u.shafts c.loop-s.s) ∙ (sym c.has.ensures ∙ c.if-has.true), c.is_always_lifted.ensures.up d w c.if-is_always_lifted.true, c.loop-s.invariant d w)

pub returns : goal.returns
returns c = λ d w s a.
    c.loop-s.invariant d w s (omega (arith, used_below 64 d.threading s (threading_below d c.args.used.draft w) a)) a
