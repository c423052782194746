use Rattle.stored.proofs.+store.Given as goal

abbrev pub decreases-store : goal.decreases-store
decreases-store l = l.deepest
