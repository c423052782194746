use Rattle.std.proofs.Common.{◌≡◌, ℕ, List, ◌++◌, drop}
use Rattle.std.specs.Fmt.{HasWritten, IsPlainFormatter}
use Rattle.encoding.specs.Answers.{bits}
use Rattle.answertext.specs.Answers.{members, listed}
use Rattle.answertext.proofs.MembersDisplay.fmt.Given as goal

-- what was written so far, and the numbers from the next on, are all of them
abbrev pub invariant-loop-i : goal.invariant-loop-i
invariant-loop-i g l =
    IsPlainFormatter l.initial.f
    → (written : List ℕ) × HasWritten g.W.Write.write_str_gives l.initial.f written l.f
    × (listed (members 0 (bits 64 l.self.0)) ≡ written ++ listed (members l.i-counter (drop l.i-counter (bits 64 l.self.0))))
