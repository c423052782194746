use Rattle.std.proofs.Common.{◌≡◌, ◌+◌, ◌-◌, get_or, ap, arith}
use Rattle.desks.specs.Memory.{treadles_at, ties_at, words_at}
use Rattle.desks.proofs.Shown.{shown, lent_good}
use Rattle.drafts.proofs.Drafts.lent.Goals as goal

pub invariant_of-result : goal.invariant_of-result
invariant_of-result c =
    let m = c.args.self.words.now in
    let few : (ties_at + get_or m treadles_at 0) - ties_at ≡ get_or m treadles_at 0 = omega arith in
    record { good = lent_good m c.args.self.sound _ _ _ c.row.ensures c.row-2.ensures (ap (λ n. words_at ties_at n m) few) }

pub returns : goal.returns
returns c =
    let m = c.args.self.words.now in
    let few : (ties_at + get_or m treadles_at 0) - ties_at ≡ get_or m treadles_at 0 = omega arith in
    shown m c.args.self.sound _ c.row.ensures c.row-2.ensures (ap (λ n. words_at ties_at n m) few)
