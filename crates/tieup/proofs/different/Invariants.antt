use Rattle.weave.specs.Cloth.{Draft}
use Rattle.lent.specs.Shows.{Shows}
use Rattle.tieup.specs.Alike.{Sorted}
use Rattle.tieup.proofs.Counting.{Counting}
use Rattle.tieup.proofs.different.Given as goal

abbrev pub invariant-loop-line : goal.invariant-loop-line
invariant-loop-line g l =
    (d : Draft) → Shows d l.used.draft → (s : Sorted (g.L.Lines.uses d) (g.L.Lines.alike d) (g.L.Lines.needed d)) → Counting s.same (g.L.Lines.uses d) l.line l.different l.left
