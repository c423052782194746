use Rattle.std.proofs.Common.{◌≡◌, drop}
use Rattle.calltext.specs.Lines.{words, word_in}
use Rattle.calltext.proofs.first_word.Given as goal

abbrev pub invariant-loop-kind : goal.invariant-loop-kind
invariant-loop-kind l = word_in words l.text ≡ word_in (drop l.kind-index words) l.text
