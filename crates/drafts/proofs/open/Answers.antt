use Rattle.std.proofs.Common.{◌≡◌, ◌≤◌, ◌∙◌, ap, true, length, drop, sym, subst, arith}
use Rattle.desks.specs.Memory.{asked}
use Rattle.desks.specs.Keepers.{in_range, LentDesk}
use Rattle.desks.proofs.Fronts.{opened_lent}
use Rattle.drafts.proofs.Opens.{opened, few_undos}
use Rattle.drafts.proofs.open.Goals as goal

pub returns : goal.returns
returns c =
    let m = c.args.memory.now in
    let s = c.args.limits.shafts in
    let t = c.args.limits.treadles in
    let u = c.args.limits.undos in
    let end : c.words_for-end.result ≡ asked u = c.words_for-end.ensures ∙ ap asked c.from.ensures in
    let room : asked u ≤ length m = omega (arith, end, c.if-memory-end.false) in
    let ok : in_range s t u ≡ true = sym c.in_range.ensures ∙ c.if-not-in_range.false in
    let words = opened s t u c.words_for-end.result m c.write_new_head.new.head c.write_new_rows.new.parts room end c.write_new_head.ensures c.write_new_rows.ensures in
    record { ranged = ok; room = room; words = words; lent = subst LentDesk (sym words) (opened_lent s t u (drop (asked u) m) ok) }

pub words_for-end-requires : goal.words_for-end-requires
words_for-end-requires c = rw c.from.ensures (few_undos c.args.limits.shafts c.args.limits.treadles c.args.limits.undos (sym c.in_range.ensures ∙ c.if-not-in_range.false))
