use Rattle.std.proofs.Common.{ℕ, ◌+◌, List, sym, refl, ◌∙◌, subst, arith}
use Rattle.std.proofs.lemmas.List.{set-get_or}
use Rattle.layering.proofs.Lines.{Filled, joined, filled_none, filled_more, filled_passed, filled_all, join_taken, join_passed, join_past}
use Rattle.layering.proofs.Sets.{masked, unmasked}
use Rattle.layers.proofs.join_by.Goals as goal
use Rattle.layers.proofs.join_by.Goals.{then-set-place-ne0, else-set-place-ne0}

pub loop-set-init : goal.loop-set-init
loop-set-init c = filled_none (joined c.args.sets.now c.args.way) c.args.sets.now c.args.sets.now (λ i. refl)

pub loop-set-preserved : goal.loop-set-preserved
loop-set-preserved c =
    let at = joined c.args.sets.now c.args.way in
    let so_far : List ℕ → Type 0 = λ sets. Filled at c.args.sets.now sets (c.loop-set.set-index + 1) in
    elim c.if-set-place-ne0.branch [
      | then-set-place-ne0 w ↦
          subst so_far (sym w.sets-is)
          (filled_more at c.args.sets.now c.loop-set.sets c.loop-set.set-index _ (omega arith) c.loop-set.invariant
          (join_taken c.args.sets.now c.loop-set.sets c.args.way c.loop-set.set-index c.loop-set.invariant (masked 128 _ c.args.way c.requires w.if-set-place-ne0.true)))
      | else-set-place-ne0 w ↦
          subst so_far (sym (w.sets-is ∙ set-get_or c.loop-set.sets c.loop-set.set-index 0))
          (filled_passed at c.args.sets.now c.loop-set.sets c.loop-set.set-index c.loop-set.invariant
          (join_passed c.args.sets.now c.loop-set.sets c.args.way c.loop-set.set-index c.loop-set.invariant (unmasked 128 _ c.args.way c.requires w.if-set-place-ne0.false)))
    ]

pub returns : goal.returns
returns c =
    filled_all (joined c.args.sets.now c.args.way) c.args.sets.now c.loop-set.sets c.loop-set.set-index c.loop-set.invariant
    (λ i j h. join_past c.args.sets.now c.args.way i j (omega arith))
