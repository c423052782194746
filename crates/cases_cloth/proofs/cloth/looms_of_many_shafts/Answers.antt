use Rattle.std.proofs.Common.{lit<, lit≤}
use Rattle.weave.specs.Rows.{run}
use Rattle.cases_cloth.proofs.Drafts.{to_written}
use Rattle.cases_cloth.proofs.cloth.looms_of_many_shafts.Goals as goal

pub draft_of-draft-requires : goal.draft_of-draft-requires
draft_of-draft-requires g c = ((run 0 23), (run 0 15), (to_written 64 23 (lit< tt) (lit< tt)), (to_written 16 15 (lit< tt) (lit< tt)), (lit≤ tt))

pub draft_of-draft-requires-2 : goal.draft_of-draft-requires-2
draft_of-draft-requires-2 g c = ((run 0 63), (run 0 63), (to_written 64 63 (lit< tt) (lit< tt)), (to_written 64 63 (lit< tt) (lit< tt)), (lit≤ tt))
