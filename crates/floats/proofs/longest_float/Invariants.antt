use Rattle.weave.specs.Rows.{written}
use Rattle.weave.specs.Cloth.{Draft, among}
use Rattle.weave.proofs.Runs.{longest_round}
use Rattle.lent.specs.Bits.{bit}
use Rattle.lent.specs.Shows.{Shows}
use Rattle.floats.specs.Kinds.{lines_of, crossed_of, goes_on}
use Rattle.floats.proofs.Best.{Best}
use Rattle.floats.proofs.longest_float.Given as goal

abbrev pub invariant-loop-line : goal.invariant-loop-line
invariant-loop-line l =
    (d : Draft) → Shows d l.draft
    → Best (λ x. among x (written (lines_of d l.kind))) (λ x. longest_round (goes_on d l.kind x) (written (crossed_of d l.kind))) (λ s. longest_round (bit s) (written (crossed_of d l.kind)))
    l.line l.seen l.most
