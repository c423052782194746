use Rattle.std.proofs.Common.{◌*◌, ◌%◌, ◌^◌, sym, ◌∙◌}
use Rattle.weave.proofs.Layers.{used_shaft}
use Rattle.sets.proofs.Members.{bit_one}
use Rattle.layering.proofs.Lines.{unused_row, shaft_row}
use Rattle.sets.proofs.Drafts.{uses_of, treadling_tied}
use Rattle.layers.proofs.shaft_needs.Goals as goal

pub returns-then-not-has : goal.returns-then-not-has
returns-then-not-has c = λ d w j.
    let u = uses_of d c.args.used w in
    unused_row d c.args.shaft j (used_shaft d 64 c.args.shaft c.requires ∙ (sym (u.shafts c.args.shaft) ∙ sym c.if-not-has.ensures))

pub returns : goal.returns
returns c = λ d w.
    let u = uses_of d c.args.used w in
    shaft_row d c.args.used.draft.ties.now (treadling_tied d c.args.used.draft w) w.tied
    c.args.used.shafts c.args.used.treadles u.shafts u.treadles
    c.args.shaft c.in_line.result (1 * 2 ^ c.args.shaft % 2 ^ 64) c.leaving_down.result c.requires (sym c.if-not-has.ensures)
    (λ j. bit_one c.args.shaft j c.requires) (c.leaving_down.ensures d w) c.in_line.ensures
