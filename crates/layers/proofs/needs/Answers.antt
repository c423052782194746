use Rattle.std.proofs.Common.{[], replicate, refl, ◌∙◌, arith}
use Rattle.std.proofs.lemmas.List.{length-set}
use Rattle.layering.specs.Needs.{at_once}
use Rattle.layering.proofs.Lines.{filled_none, filled_more, filled_all, unused_row, untied, zeros}
use Rattle.sets.proofs.Drafts.{treadling_below}
use Rattle.layers.proofs.needs.Goals as goal

pub loop-place-init : goal.loop-place-init
loop-place-init c = (refl, λ d w. filled_none (at_once d) [] (replicate 128 0) (zeros 128))

pub loop-place-preserved : goal.loop-place-preserved
loop-place-preserved c = (
  length-set c.loop-place.set-items _ _ ∙ c.loop-place.invariant.0,
  λ d w. filled_more (at_once d) [] c.loop-place.set-items c.loop-place.place c.place_needs.result (omega arith) (c.loop-place.invariant.1 d w) (c.place_needs.ensures d w),
)

pub returns : goal.returns
returns c = λ d w.
    filled_all (at_once d) [] c.loop-place.set-items c.loop-place.place (c.loop-place.invariant.1 d w)
    (λ i j h. unused_row d i j (untied d 64 i (treadling_below d c.args.used.draft w) (omega arith)))
