use Rattle.std.proofs.Common.{◌≡◌, ◌+◌, ◌-◌, get_or, ap, ◌∙◌, arith}
use Rattle.desks.specs.Memory.{row_room, row_at, slot_at, words_at}
use Rattle.desks.proofs.Shown.{lent_is_row}
use Rattle.drafts.proofs.Drafts.row.Goals as goal

pub invariant_of-result : goal.invariant_of-result
invariant_of-result c =
    let m = c.args.self.words.now in
    let a = c.row_at-at.result in
    let room : (a + row_room) - a ≡ row_room = omega arith in
    let is : words_at a ((a + row_room) - a) m ≡ words_at (row_at c.args.which (get_or m (slot_at c.args.which) 0)) row_room m =
    ap (λ n. words_at a n m) room ∙ ap (λ x. words_at x row_room m) (c.row_at-at.ensures ∙ ap (λ i. row_at c.args.which (get_or m i 0)) c.slot_at.ensures) in
    record { begins = rw is (lent_is_row m c.args.self.sound c.args.which) }

pub returns : goal.returns
returns c =
    let m = c.args.self.words.now in
    let a = c.row_at-at.result in
    let room : (a + row_room) - a ≡ row_room = omega arith in
    ap (λ n. words_at a n m) room ∙ ap (λ x. words_at x row_room m) (c.row_at-at.ensures ∙ ap (λ i. row_at c.args.which (get_or m i 0)) c.slot_at.ensures)
