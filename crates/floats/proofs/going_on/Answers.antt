use Rattle.std.proofs.Common.{◌<◌, Bool, not, ◌&&◌, length, get_or, ap, ◌∙◌, arith}
use Rattle.std.proofs.lemmas.Bool.{lt-ltb}
use Rattle.lent.specs.Bits.{bit}
use Rattle.lent.specs.Shows.{draft_in}
use Rattle.lent.proofs.Shown.{shown}
use Rattle.sets.proofs.Members.{bit-bit_and, bit_without}
use Rattle.floats.proofs.Drafts.{shaft_few, treadle_tied}
use Rattle.floats.proofs.going_on.Goals as goal

pub bounds-draft-line : goal.bounds-draft-line
bounds-draft-line c = treadle_tied (draft_in c.args.draft) c.args.draft (shown c.args.draft) c.args.line (rw c.in-PicksOnFace.is at c.requires)

pub bounds-draft-line-in-PicksOnBack : goal.bounds-draft-line-in-PicksOnBack
bounds-draft-line-in-PicksOnBack c = treadle_tied (draft_in c.args.draft) c.args.draft (shown c.args.draft) c.args.line (rw c.in-PicksOnBack.is at c.requires)

pub returns-in-EndsOnFace : goal.returns-in-EndsOnFace
returns-in-EndsOnFace c = λ d w.
    let few : c.args.line < 64 = shaft_few (draft_in c.args.draft) c.args.draft (shown c.args.draft) c.args.line (rw c.in-EndsOnFace.is at c.requires) in
    rw c.in-EndsOnFace.is
    (λ n e.
    let tied = treadle_tied d c.args.draft w n e in
    bit-bit_and c.args.numbers c.lifting.result n ∙ ap (λ (t : Bool). bit c.args.numbers n && t) (c.lifting.ensures n ∙ rw (lt-ltb n (length c.args.draft.ties.now) tied) (w.tied n c.args.line tied few)))

pub returns-in-EndsOnBack : goal.returns-in-EndsOnBack
returns-in-EndsOnBack c = λ d w.
    let few : c.args.line < 64 = shaft_few (draft_in c.args.draft) c.args.draft (shown c.args.draft) c.args.line (rw c.in-EndsOnBack.is at c.requires) in
    rw c.in-EndsOnBack.is
    (λ n e.
    let tied = treadle_tied d c.args.draft w n e in
    bit_without 64 c.args.numbers c.lifting-in-EndsOnBack.result n (omega arith) (omega arith)
    ∙ ap (λ (t : Bool). bit c.args.numbers n && not t) (c.lifting-in-EndsOnBack.ensures n ∙ rw (lt-ltb n (length c.args.draft.ties.now) tied) (w.tied n c.args.line tied few)))

pub returns-in-PicksOnFace : goal.returns-in-PicksOnFace
returns-in-PicksOnFace c = λ d w.
    let tied = treadle_tied (draft_in c.args.draft) c.args.draft (shown c.args.draft) c.args.line (rw c.in-PicksOnFace.is at c.requires) in
    rw c.in-PicksOnFace.is
    (λ n e.
    let few = shaft_few d c.args.draft w n e in
    bit_without 64 c.args.numbers (get_or c.args.draft.ties.now c.args.line 0) n (omega arith) (omega arith)
    ∙ ap (λ (t : Bool). bit c.args.numbers n && not t) (w.tied c.args.line n tied few))

pub returns-in-PicksOnBack : goal.returns-in-PicksOnBack
returns-in-PicksOnBack c = λ d w.
    let tied = treadle_tied (draft_in c.args.draft) c.args.draft (shown c.args.draft) c.args.line (rw c.in-PicksOnBack.is at c.requires) in
    rw c.in-PicksOnBack.is
    (λ n e.
    let few = shaft_few d c.args.draft w n e in
    bit-bit_and c.args.numbers (get_or c.args.draft.ties.now c.args.line 0) n
    ∙ ap (λ (t : Bool). bit c.args.numbers n && t) (w.tied c.args.line n tied few))
