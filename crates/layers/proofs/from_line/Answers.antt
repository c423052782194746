use Rattle.std.proofs.Common.{refl}
use Rattle.std.proofs.lemmas.Nat.{and_mask}
use Rattle.layers.proofs.from_line.Goals as goal

pub returns : goal.returns
returns c = record { shafts = rw c.from.ensures (and_mask c.args.set 64); treadles = refl }
