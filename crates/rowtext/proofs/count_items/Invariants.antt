use Rattle.std.proofs.Common.{drop}
use Rattle.rowtext.proofs.Counts.{Counted}
use Rattle.rowtext.proofs.count_items.Given as goal

abbrev pub invariant-loop-token : goal.invariant-loop-token
invariant-loop-token l = Counted l.tokens (drop l.token-index l.tokens) l.items l.inside
