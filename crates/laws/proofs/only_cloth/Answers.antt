-- Of two drafts that weave the same cloth the same is told.
use Rattle.laws.proofs.Same.{only_cloth}
use Rattle.laws.proofs.only_cloth.Goals as goal

pub returns : goal.returns
returns c = only_cloth
