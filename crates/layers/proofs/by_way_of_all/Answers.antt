use Rattle.std.proofs.Common.{◌≡◌, ℕ, sym, ◌∙◌, subst, arith}
use Rattle.std.proofs.lemmas.Bool.{or_left}
use Rattle.lent.specs.Bits.{bit}
use Rattle.layering.proofs.Ways.{Ways, ways_none, ways_joined, ways_skipped, ways_all}
use Rattle.layering.proofs.Sets.{bit_inside}
use Rattle.layers.specs.Told.{in_row}
use Rattle.layers.proofs.by_way_of_all.Goals as goal

pub loop-way-init : goal.loop-way-init
loop-way-init c = (
  ways_none (bit c.args.used) (in_row c.args.rows) 128 (λ j. bit_inside 128 c.args.used j (omega arith)) c.requires.used,
  c.requires.itself,
)

pub loop-way-preserved-then-has_place : goal.loop-way-preserved-then-has_place
loop-way-preserved-then-has_place c = (
  ways_joined (bit c.args.used) (in_row c.args.rows) 128 c.loop-way.way (in_row c.loop-way.sets) (in_row c.join_by.new.sets) (omega arith) (omega arith) c.loop-way.invariant.0
      c.join_by.ensures,
  λ i u. c.join_by.ensures i i ∙ or_left (in_row c.loop-way.sets i i) _ (c.loop-way.invariant.1 i u),
)

pub loop-way-preserved : goal.loop-way-preserved
loop-way-preserved c = (
  ways_skipped (bit c.args.used) (in_row c.args.rows) 128 c.loop-way.way (in_row c.loop-way.sets) (omega arith) c.loop-way.invariant.0 (sym c.if-has_place.ensures),
  c.loop-way.invariant.1,
)

pub returns : goal.returns
returns c = λ i j u.
    let e : c.loop-way.way ≡ 0 = omega arith in
    ways_all (bit c.args.used) (in_row c.args.rows) 128 (in_row c.loop-way.sets)
    (subst (λ (k : ℕ). Ways (bit c.args.used) (in_row c.args.rows) 128 k (in_row c.loop-way.sets)) e c.loop-way.invariant.0)
    i (bit_inside 128 c.args.used i (omega arith) u) (c.loop-way.invariant.1 i u) j
