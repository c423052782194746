use Rattle.wire.proofs.+skip_row.Given as goal

abbrev pub decreases-skip_row : goal.decreases-skip_row
decreases-skip_row l = l.deep
