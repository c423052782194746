use Rattle.rowprint.proofs.+push_row.Given as goal

abbrev pub decreases-push_row : goal.decreases-push_row
decreases-push_row l = l.deep
