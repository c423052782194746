use Rattle.std.proofs.Common.{◌≡◌, ◌*◌, ◌++◌, drop}
use Rattle.desks.specs.Memory.{row_part}
use Rattle.desks.specs.Keepers.{new_rows}
use Rattle.drafts.proofs.write_new_rows.Given as goal

abbrev pub invariant-loop-k : goal.invariant-loop-k
invariant-loop-k l = l.parts ≡ new_rows l.k ++ drop (row_part * l.k) l.initial.parts
