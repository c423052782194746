-- An end that is always over, or always under, does not hang together with the rest.
use Rattle.laws.proofs.Layers.{floats_off}
use Rattle.laws.proofs.floats_off.Goals as goal

pub returns : goal.returns
returns c = floats_off
