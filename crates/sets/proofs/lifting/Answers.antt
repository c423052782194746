use Rattle.std.proofs.Common.{ℕ, ◌*◌, ◌%◌, ◌^◌, Bool, ◌||◌, get_or, sym, ap, ◌∙◌, ap₂, arith}
use Rattle.lent.specs.Bits.{bit}
use Rattle.sets.proofs.Members.{bit-bit_or, bit_one}
use Rattle.sets.proofs.Gathered.{gathered_taken, gathered_passed}
use Rattle.sets.proofs.lifting.Goals as goal
use Rattle.sets.proofs.lifting.Goals.{then-has, else-has}

pub loop-t-preserved : goal.loop-t-preserved
loop-t-preserved c = λ n.
    let b : ℕ → Bool = λ t. bit (get_or c.args.draft.ties.now t 0) c.args.shaft in
    elim c.if-has.branch [
      | then-has w ↦
          ap (λ (x : ℕ). bit x n) w.treadles-is
          ∙ bit-bit_or c.loop-t.treadles ((1 * 2 ^ c.loop-t.t) % 2 ^ 64) n
          ∙ ap₂ ◌||◌ (c.loop-t.invariant n) (bit_one c.loop-t.t n (omega arith))
          ∙ gathered_taken b c.loop-t.t n (sym c.has.ensures ∙ w.if-has.true)
      | else-has w ↦ ap (λ (x : ℕ). bit x n) w.treadles-is ∙ c.loop-t.invariant n ∙ gathered_passed b c.loop-t.t n (sym c.has.ensures ∙ w.if-has.false)
    ]
