use Rattle.std.proofs.Common.{◌+◌, ◌*◌, ◌%◌, ◌^◌, sym, ◌∙◌, arith}
use Rattle.weave.proofs.Layers.{used_treadle}
use Rattle.sets.proofs.Members.{bit_one}
use Rattle.layering.proofs.Lines.{unused_row, treadle_row}
use Rattle.lent.specs.Shows.{draft_in}
use Rattle.lent.proofs.Shown.{shown}
use Rattle.sets.proofs.Drafts.{uses_of, treadling_tied, treadle_tied}
use Rattle.layers.proofs.treadle_needs.Goals as goal

pub bounds-used-treadle : goal.bounds-used-treadle
bounds-used-treadle c = treadle_tied (draft_in c.args.used.draft) c.args.used.draft (shown c.args.used.draft) c.args.used (uses_of _ c.args.used (shown c.args.used.draft)) c.args.treadle (sym c.if-not-has.ensures)

pub overflow_shl-treadle : goal.overflow_shl-treadle
overflow_shl-treadle c =
    let tied = treadle_tied (draft_in c.args.used.draft) c.args.used.draft (shown c.args.used.draft) c.args.used (uses_of _ c.args.used (shown c.args.used.draft)) c.args.treadle (sym c.if-not-has.ensures) in
    omega (arith, c.args.used.draft.good.few)

pub returns-then-not-has : goal.returns-then-not-has
returns-then-not-has c = λ d w j.
    let u = uses_of d c.args.used w in
    unused_row d (64 + c.args.treadle) j (used_treadle d 64 c.args.treadle ∙ (sym (u.treadles c.args.treadle) ∙ sym c.if-not-has.ensures))

pub returns : goal.returns
returns c = λ d w.
    let u = uses_of d c.args.used w in
    let tied = treadle_tied d c.args.used.draft w c.args.used u c.args.treadle (sym c.if-not-has.ensures) in
    treadle_row d c.args.used.draft.ties.now (treadling_tied d c.args.used.draft w) w.tied
    c.args.used.shafts c.args.used.treadles u.shafts u.treadles
    c.args.treadle c.in_line.result (1 * 2 ^ c.args.treadle % 2 ^ 64) tied (sym c.if-not-has.ensures)
    (λ j. bit_one c.args.treadle j (omega (arith, w.few))) c.in_line.ensures
