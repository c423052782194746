use Rattle.std.proofs.Common.{◌∙◌, arith}
use Rattle.encoding.specs.Answers.{bit}
use Rattle.picks.proofs.Packed.{packing_starts, packing_more, packing_ends, packing_within, chunk_within}
use Rattle.picks.proofs.pack.Goals as goal

pub loop-b-init : goal.loop-b-init
loop-b-init c =
    let e = c.into_iter-b-iterator.ensures.into_iter_gives in
    let s = c.enumerate-b-items.ensures.source in
    (rw (e, c.enumerate-b-items.ensures.count, s, c.chunks.ensures.rest) (packing_starts (bit c.args.lifted) c.args.shafts.now), rw (e, s) c.chunks.ensures.size)

pub byte-requires : goal.byte-requires
byte-requires c =
    let step = rw c.in-Some.is at c.next.ensures.steps in
    record {
      few = omega (arith, step.0.1.1);
      shafts = chunk_within (bit c.args.lifted) c.args.shafts.now c.loop-b.invariant.0 64 c.requires.shafts c.in-Some.eight.now c.next.new.self.iter.rest.now step.0.1.0;
    }

pub loop-b-preserved : goal.loop-b-preserved
loop-b-preserved c =
    let step = rw c.in-Some.is at c.next.ensures.steps in
    let few = packing_within (bit c.args.lifted) c.args.shafts.now c.loop-b.invariant.0 step.0.1.2 c.requires.few in (
      rw (step.1, step.2)
          (packing_more (bit c.args.lifted) c.args.shafts.now c.loop-b.invariant.0 c.in-Some.eight.now c.next.new.self.iter.rest.now c.byte.result step.0.1.0
          (rw c.loop-b.invariant.1 at step.0.1.1) few c.byte.ensures),
      step.0.0 ∙ c.loop-b.invariant.1,
    )

pub returns : goal.returns
returns c =
    let step = rw c.in-None.is at c.next.ensures.steps in
    packing_ends (bit c.args.lifted) c.args.shafts.now c.loop-b.invariant.0 step.0.1.0
