use Rattle.cases_cloth.proofs.Drafts.{is_row_in, good_in}
use Rattle.cases_cloth.proofs.cloth.draft_of.Goals as goal

pub invariant_of-result : goal.invariant_of-result
invariant_of-result c = record { begins = is_row_in _ _ _ c.requires.2 }

pub invariant_of-result-2 : goal.invariant_of-result-2
invariant_of-result-2 c = record { begins = is_row_in _ _ _ c.requires.3 }

pub invariant_of-result-3 : goal.invariant_of-result-3
invariant_of-result-3 c = record { good = record { shafts = good_in 64 _ _ c.requires.2; treadles = good_in _ _ _ c.requires.3; few = c.requires.4 } }
