use Rattle.std.proofs.Common.{lit<, lit≤}
use Rattle.weave.specs.Rows.{run}
use Rattle.cases_cloth.proofs.Drafts.{to_written}
use Rattle.cases_cloth.proofs.cloth.layers_over_others.Goals as goal

pub draft_of-draft-requires : goal.draft_of-draft-requires
draft_of-draft-requires g c = ((run 0 3), (run 0 3), (to_written 64 3 (lit< tt) (lit< tt)), (to_written 4 3 (lit< tt) (lit< tt)), (lit≤ tt))

pub draft_of-draft-requires-2 : goal.draft_of-draft-requires-2
draft_of-draft-requires-2 g c = ((run 0 3), (run 0 3), (to_written 64 3 (lit< tt) (lit< tt)), (to_written 4 3 (lit< tt) (lit< tt)), (lit≤ tt))

pub draft_of-draft-requires-3 : goal.draft_of-draft-requires-3
draft_of-draft-requires-3 g c = ((run 0 5), (run 0 5), (to_written 64 5 (lit< tt) (lit< tt)), (to_written 6 5 (lit< tt) (lit< tt)), (lit≤ tt))

pub draft_of-draft-requires-4 : goal.draft_of-draft-requires-4
draft_of-draft-requires-4 g c = ((run 0 3), (run 0 1), (to_written 64 3 (lit< tt) (lit< tt)), (to_written 2 1 (lit< tt) (lit< tt)), (lit≤ tt))

pub draft_of-draft-requires-5 : goal.draft_of-draft-requires-5
draft_of-draft-requires-5 g c = ((run 0 2), (run 0 1), (to_written 64 2 (lit< tt) (lit< tt)), (to_written 2 1 (lit< tt) (lit< tt)), (lit≤ tt))

pub draft_of-draft-requires-6 : goal.draft_of-draft-requires-6
draft_of-draft-requires-6 g c = ((run 0 1), (run 0 2), (to_written 64 1 (lit< tt) (lit< tt)), (to_written 3 2 (lit< tt) (lit< tt)), (lit≤ tt))
