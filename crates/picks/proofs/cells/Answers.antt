use Rattle.std.proofs.Common.{◌≡◌, ◌+◌, false, map, length, ◌∙◌, arith}
use Rattle.std.proofs.lemmas.List.{length-map, length-take, get_or_past}
use Rattle.encoding.specs.Answers.{bit}
use Rattle.lent.specs.Shows.{draft_in}
use Rattle.lent.proofs.Shown.{shown, shown_shaft, told_shaft}
use Rattle.picks.proofs.Packed.{part_cells}
use Rattle.picks.proofs.cells.Goals as goal

pub pack-requires : goal.pack-requires
pack-requires c =
    record {
      few = omega (arith, c.numbers_from.auto.out);
      shafts = λ k h. rw (c.numbers_from.ensures k h ∙ told_shaft (draft_in c.args.draft) c.args.draft (shown c.args.draft) (c.args.end + k)) (shown_shaft (draft_in c.args.draft) c.args.draft (shown c.args.draft) (c.args.end + k));
    }

pub returns : goal.returns
returns c =
    let l : length c.numbers_from.new.out ≡ c.args.count = omega (arith, simp length-take at c.numbers_from.auto.out) in (
      omega arith,
      λ d w.
          part_cells c.pack.result c.numbers_from.new.out c.lifted_at.result d c.args.pick c.args.end c.args.count l c.pack.ensures
          (λ k h. c.numbers_from.ensures k h ∙ told_shaft d c.args.draft w (c.args.end + k))
          (λ k h. rw (c.numbers_from.ensures k h ∙ told_shaft d c.args.draft w (c.args.end + k)) (shown_shaft d c.args.draft w (c.args.end + k)))
          (c.lifted_at.ensures d w),
      λ i h. c.pack.ensures i ∙ get_or_past (map (bit c.lifted_at.result) c.numbers_from.new.out) i false (omega (arith, length-map c.numbers_from.new.out (bit c.lifted_at.result))),
    )
