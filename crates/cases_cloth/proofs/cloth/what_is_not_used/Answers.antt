use Rattle.std.proofs.Common.{lit<, lit≤}
use Rattle.weave.specs.Rows.{one, run}
use Rattle.cases_cloth.proofs.Drafts.{to_written, first_written}
use Rattle.cases_cloth.proofs.cloth.what_is_not_used.Goals as goal

pub draft_of-draft-requires : goal.draft_of-draft-requires
draft_of-draft-requires g c = ((run 0 1), (run 0 1), (to_written 64 1 (lit< tt) (lit< tt)), (to_written 2 1 (lit< tt) (lit< tt)), (lit≤ tt))

pub draft_of-draft-requires-2 : goal.draft_of-draft-requires-2
draft_of-draft-requires-2 g c = ((run 0 1), (one 0), (to_written 64 1 (lit< tt) (lit< tt)), (first_written 2 (lit< tt)), (lit≤ tt))

pub draft_of-draft-requires-3 : goal.draft_of-draft-requires-3
draft_of-draft-requires-3 g c = ((run 0 3), (run 0 3), (to_written 64 3 (lit< tt) (lit< tt)), (to_written 4 3 (lit< tt) (lit< tt)), (lit≤ tt))
