use Rattle.rowprint.proofs.+shape.Given as goal

abbrev pub decreases-shape : goal.decreases-shape
decreases-shape l = l.deep
