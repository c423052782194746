use Rattle.std.proofs.Common.{sym, ◌∙◌, inl, inr}
use Rattle.std.proofs.lemmas.Bool.{cases_lt}
use Rattle.lent.proofs.Bits.{bit_past}
use Rattle.sets.proofs.Members.{bit_none}
use Rattle.lent.specs.Shows.{draft_in}
use Rattle.lent.proofs.Shown.{shown}
use Rattle.tieup.proofs.Counting.{alike_past, alike_unused}
use Rattle.tieup.proofs.alike.Goals as goal

pub like-requires : goal.like-requires
like-requires g c =
    sym (c.in_use.ensures (draft_in c.of-used.result.draft) (shown c.of-used.result.draft) c.args.line) ∙ (sym c.has.ensures ∙ c.if-has.true)

pub returns-then-has : goal.returns-then-has
returns-then-has g c = λ d w n.
    elim (cases_lt n 64) [
      | inl h ↦ c.like.ensures d (rw c.of-used.ensures.draft w) n h
      | inr h ↦ bit_past 64 c.like.result n c.like.type_inv h ∙ sym (alike_past (g.met.L.Lines.sorted d c.args.draft w) c.args.line n h)
    ]

pub returns-else-has : goal.returns-else-has
returns-else-has g c = λ d w n.
    let unused = sym (c.in_use.ensures d (rw c.of-used.ensures.draft w) c.args.line) ∙ (sym c.has.ensures ∙ c.if-has.false) in
    bit_none n ∙ sym (alike_unused (g.met.L.Lines.sorted d c.args.draft w) c.args.line n unused)
