use Rattle.std.proofs.Common.{length, arith, lit<}
use Rattle.weave.specs.Rows.{run}
use Rattle.cases_cloth.proofs.Drafts.{to_written}
use Rattle.cases_cloth.proofs.cloth.the_longest_chain.Goals as goal

pub draft_of-draft-requires : goal.draft_of-draft-requires
draft_of-draft-requires g c =
    ((run 0 63), (run 0 63), (to_written 64 63 (lit< tt) (lit< tt)), (to_written (length c.loop-t.lifted-items) 63 (omega (arith, c.loop-t.invariant)) (lit< tt)), (omega (arith, c.loop-t.invariant)))
