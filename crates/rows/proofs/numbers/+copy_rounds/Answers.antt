use Rattle.std.proofs.Common.{sym, ap, get_or, mod-eq_of_lt, arith}
use Rattle.rows.proofs.Along.{doubled}
use Rattle.rows.proofs.numbers.+copy_rounds.Goals as goal

pub returns-then-round-out-clause-copied : goal.returns-then-round-out-clause-copied
returns-then-round-out-clause-copied t c =
    let by = c.copy_within.ensures.by_index in
    doubled _ _ _ c.args.round c.min-n.result (omega arith) (omega arith) (omega arith) (omega arith) (omega arith) (λ k h. by.1 k 0 h) (λ k l h. by.0 k 0 l (omega arith)) c.copy_rounds.ensures.copied

pub returns-else-round-out-clause-copied : goal.returns-else-round-out-clause-copied
returns-else-round-out-clause-copied t c = λ k h. ap (λ j. get_or c.args.out.now j 0) (sym (mod-eq_of_lt (omega arith)))
