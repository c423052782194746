use Rattle.std.proofs.Common.{◌≡◌, ℕ, Bool, ◌&&◌, length, get_or, sym, ap, ◌∙◌, ap₂, arith}
use Rattle.lent.specs.Bits.{bit}
use Rattle.sets.proofs.Members.{bit-bit_and}
use Rattle.tieup.proofs.Ties.{agree_none, agree_taken, agree_passed}
use Rattle.sets.proofs.Drafts.{uses_of}
use Rattle.tieup.proofs.Drafts.{shafts_alike}
use Rattle.tieup.proofs.ShaftsLines.like.Goals as goal
use Rattle.tieup.proofs.ShaftsLines.like.Goals.{then-has, else-has}

pub loop-t-init : goal.loop-t-init
loop-t-init c = λ n h.
    sym (agree_none (bit c.args.used.treadles) (λ k. bit (get_or c.args.used.draft.ties.now k 0) c.args.shaft) (λ k. bit (get_or c.args.used.draft.ties.now k 0) n) (bit c.args.used.shafts n))

pub loop-t-preserved : goal.loop-t-preserved
loop-t-preserved c = λ n h.
    let a : ℕ → Bool = λ k. bit (get_or c.args.used.draft.ties.now k 0) c.args.shaft in
    let b : ℕ → Bool = λ k. bit (get_or c.args.used.draft.ties.now k 0) n in
    let t : ℕ = c.loop-t.t in
    elim c.if-has.branch [
      | then-has w ↦
          ap (λ (x : ℕ). bit x n) w.alike-is
          ∙ bit-bit_and c.loop-t.alike w.lifted_with-alike.result n
          ∙ ap₂ ◌&&◌ (c.loop-t.invariant n h) (w.lifted_with-alike.ensures n h)
          ∙ agree_taken (bit c.args.used.treadles) a b (bit c.args.used.shafts n) t (sym c.has.ensures ∙ w.if-has.true)
      | else-has w ↦
          ap (λ (x : ℕ). bit x n) w.alike-is
          ∙ c.loop-t.invariant n h
          ∙ agree_passed (bit c.args.used.treadles) a b (bit c.args.used.shafts n) t (sym c.has.ensures ∙ w.if-has.false)
    ]

pub returns : goal.returns
returns c = λ d w n h.
    let e : c.loop-t.t ≡ length c.args.used.draft.ties.now = omega arith in
    (rw e at (c.loop-t.invariant n h)) ∙ shafts_alike d c.args.used.draft w c.args.used (uses_of d c.args.used w) c.args.shaft n h (c.args.used.used.of_ends c.args.shaft ∙ c.requires)
