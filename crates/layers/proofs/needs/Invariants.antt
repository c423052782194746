use Rattle.std.proofs.Common.{◌≡◌, [], length}
use Rattle.weave.specs.Cloth.{Draft}
use Rattle.lent.specs.Shows.{Shows}
use Rattle.layering.specs.Needs.{at_once}
use Rattle.layering.proofs.Lines.{Filled}
use Rattle.layers.proofs.needs.Given as goal

abbrev pub invariant-loop-place : goal.invariant-loop-place
invariant-loop-place l = (length l.set-items ≡ 128) × ((d : Draft) → Shows d l.used.draft → Filled (at_once d) [] l.set-items l.place)
