use Rattle.std.proofs.Common.{refl, lit<, lit≤}
use Rattle.weave.specs.Rows.{one, then, times, run, below, some_each, size, deep, long}
use Rattle.weave.specs.Promise.{fields_in}
use Rattle.rows.specs.Words.{row_words}
use Rattle.cases_cloth.proofs.Drafts.{to_written, first_written}
use Rattle.cases_cloth.proofs.cloth.plain_weave_and_others.Goals as goal

pub draft_of-draft-requires : goal.draft_of-draft-requires
draft_of-draft-requires g c = ((run 0 1), (run 0 1), (to_written 64 1 (lit< tt) (lit< tt)), (to_written 2 1 (lit< tt) (lit< tt)), (lit≤ tt))

pub draft_of-draft-requires-2 : goal.draft_of-draft-requires-2
draft_of-draft-requires-2 g c = ((run 0 3), (run 0 3), (to_written 64 3 (lit< tt) (lit< tt)), (to_written 4 3 (lit< tt) (lit< tt)), (lit≤ tt))

pub draft_of-draft-requires-3 : goal.draft_of-draft-requires-3
unfolding row_words below some_each size deep long fields_in
draft_of-draft-requires-3 g c = ((then (run 0 3) (run 2 1)), (run 0 3), (record { good = refl; fields = refl; is = refl }), (to_written 4 3 (lit< tt) (lit< tt)), (lit≤ tt))

pub draft_of-draft-requires-4 : goal.draft_of-draft-requires-4
draft_of-draft-requires-4 g c = ((run 0 3), (run 0 1), (to_written 64 3 (lit< tt) (lit< tt)), (to_written 2 1 (lit< tt) (lit< tt)), (lit≤ tt))

pub draft_of-draft-requires-5 : goal.draft_of-draft-requires-5
unfolding row_words below some_each size deep long fields_in
draft_of-draft-requires-5 g c = ((then (times 2 (one 0)) (times 2 (one 1))), (then (times 2 (one 0)) (times 2 (one 1))), (record { good = refl; fields = refl; is = refl }), (record { good = refl; fields = refl; is = refl }), (lit≤ tt))

pub draft_of-draft-requires-6 : goal.draft_of-draft-requires-6
draft_of-draft-requires-6 g c = ((one 0), (one 0), (first_written 64 (lit< tt)), (first_written 1 (lit< tt)), (lit≤ tt))
