use Rattle.std.proofs.Common.{◌≡◌, ◌-◌, ◌≤◌, ◌++◌, map, string_bytes}
use Rattle.weave.specs.Cloth.{Draft}
use Rattle.weave.specs.Calls.{cells_of}
use Rattle.lent.specs.Shows.{Shows}
use Rattle.answertext.specs.Answers.{cell_text}
use Rattle.drawdown.proofs.cloth.put_pick.Given as goal

abbrev pub invariant-loop-end : goal.invariant-loop-end
invariant-loop-end l =
    (l.ends.from ≤ l.end) × (l.end - l.ends.from ≤ l.ends.to - l.ends.from)
    × ((d : Draft) → Shows d l.draft → string_bytes l.text ≡ string_bytes l.initial.text ++ map cell_text (cells_of d l.pick l.ends.from (l.end - l.ends.from)))
