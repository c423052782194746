use Rattle.std.proofs.Common.{ℕ, ◌+◌, sym, refl, ap, ◌∙◌, subst, inl, arith}
use lib.Count.{ones}
use Rattle.std.proofs.lemmas.Bool.{both_ways}
use Rattle.lent.specs.Bits.{bit}
use Rattle.layering.proofs.Sets.{bit_inside}
use Rattle.layers.proofs.Smaller.{Smaller, smaller_passed, smaller_taken, smaller_all}
use Rattle.layers.proofs.smallest.Goals as goal
use Rattle.layers.proofs.smallest.Goals.{then-has_place+then-size-fewest, then-has_place+else-size-fewest, else-has_place}

pub loop-i-init : goal.loop-i-init
loop-i-init c = (refl, inl (refl, λ y h u. absurd (omega arith)))

pub loop-i-preserved : goal.loop-i-preserved
loop-i-preserved c =
    let so_far : ℕ → Type 0 = λ x. Smaller c.args.sets c.args.used x (c.loop-i.i + 1) in
    elim c.if-has_place.branch [
      | then-has_place+then-size-fewest w ↦ (
        w.fewest-is ∙ ap ones (sym w.smallest-is),
        subst so_far (sym w.smallest-is)
            (smaller_taken c.args.sets c.args.used c.loop-i.smallest c.loop-i.i c.loop-i.invariant.1 (sym c.has_place.ensures ∙ w.if-has_place.true)
            (omega (arith, w.if-size-fewest.true, c.loop-i.invariant.0))),
      )
      | then-has_place+else-size-fewest w ↦ (
        w.fewest-is ∙ (c.loop-i.invariant.0 ∙ ap ones (sym w.smallest-is)),
        subst so_far (sym w.smallest-is)
            (smaller_passed c.args.sets c.args.used c.loop-i.smallest c.loop-i.i c.loop-i.invariant.1 (λ u. omega (arith, w.if-size-fewest.false, c.loop-i.invariant.0))),
      )
      | else-has_place w ↦ (
        w.fewest-is ∙ (c.loop-i.invariant.0 ∙ ap ones (sym w.smallest-is)),
        subst so_far (sym w.smallest-is)
            (smaller_passed c.args.sets c.args.used c.loop-i.smallest c.loop-i.i c.loop-i.invariant.1
            (λ u. absurd (both_ways (bit c.args.used c.loop-i.i) (sym c.has_place.ensures ∙ w.if-has_place.false) u))),
      )
    ]

pub returns : goal.returns
returns c =
    smaller_all c.args.sets c.args.used c.loop-i.smallest c.loop-i.i c.loop-i.invariant.1
    (λ y u. omega (arith, bit_inside 128 c.args.used y (omega arith) u))
