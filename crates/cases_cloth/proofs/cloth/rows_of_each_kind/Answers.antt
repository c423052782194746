use Rattle.std.proofs.Common.{refl, lit<, lit≤}
use Rattle.weave.specs.Rows.{one, then, times, turned, run, below, some_each, size, deep, long}
use Rattle.weave.specs.Promise.{fields_in}
use Rattle.rows.specs.Words.{row_words}
use Rattle.cases_cloth.proofs.Drafts.{to_written, first_written}
use Rattle.cases_cloth.proofs.cloth.rows_of_each_kind.Goals as goal

pub draft_of-draft-requires : goal.draft_of-draft-requires
unfolding row_words below some_each size deep long fields_in
draft_of-draft-requires g c = ((run 0 1), (then (run 0 1) (run 1 0)), (to_written 64 1 (lit< tt) (lit< tt)), (record { good = refl; fields = refl; is = refl }), (lit≤ tt))

pub draft_of-draft-requires-2 : goal.draft_of-draft-requires-2
unfolding row_words below some_each size deep long fields_in
draft_of-draft-requires-2 g c = ((run 0 2), (turned (then (one 2) (times 3 (then (one 0) (times 2 (one 1)))))), (to_written 64 2 (lit< tt) (lit< tt)), (record { good = refl; fields = refl; is = refl }), (lit≤ tt))

pub draft_of-draft-requires-3 : goal.draft_of-draft-requires-3
unfolding row_words below some_each size deep long fields_in
draft_of-draft-requires-3 g c = ((one 0), (times 16777216 (one 0)), (first_written 64 (lit< tt)), (record { good = refl; fields = refl; is = refl }), (lit≤ tt))

pub draft_of-draft-requires-4 : goal.draft_of-draft-requires-4
unfolding row_words below some_each size deep long fields_in
draft_of-draft-requires-4 g c = ((times 3355443 (then (one 5) (turned (run 3 0)))), (times 3355443 (then (one 5) (turned (run 3 0)))), (record { good = refl; fields = refl; is = refl }), (record { good = refl; fields = refl; is = refl }), (lit≤ tt))
