use Rattle.std.proofs.Common.{◌≡◌, ℕ, List, ◌++◌, ◌*◌, min, map, drop}
use Rattle.std.specs.Fmt.{HasWritten, IsPlainFormatter}
use Rattle.encoding.specs.Answers.{bits_in}
use Rattle.answertext.specs.Answers.{cell_text}
use Rattle.answertext.proofs.CellsDisplay.fmt.Given as goal

-- what was written so far, and the cells that are left, are all of them
abbrev pub invariant-loop-k : goal.invariant-loop-k
invariant-loop-k g l =
    (l.shown ≡ min l.self.count 1024)
    × (IsPlainFormatter l.initial.f
    → (written : List ℕ) × HasWritten g.W.Write.write_str_gives l.initial.f written l.f
    × (map cell_text (bits_in l.self.bits.now l.shown) ≡ written ++ map cell_text (drop (2 * l.k) (bits_in l.self.bits.now l.shown))))
