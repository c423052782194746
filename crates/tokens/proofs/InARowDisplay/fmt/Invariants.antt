use Rattle.std.proofs.Common.{◌≡◌, List, ◌++◌, ℕ, drop}
use Rattle.std.specs.Fmt.{HasWritten, IsPlainFormatter}
use Rattle.tokens.specs.declared.Token.TheVariants.{Open}
use Rattle.tokens.specs.Tokens.{text_on}
use Rattle.tokens.proofs.InARowDisplay.fmt.Given as goal

-- what was written so far, and the text of the tokens that are left, are the text of all
abbrev pub invariant-loop-token : goal.invariant-loop-token
invariant-loop-token g l =
    IsPlainFormatter l.initial.f
    → (written : List ℕ) × HasWritten g.W.Write.write_str_gives l.initial.f written l.f × (written ++ text_on l.before (drop l.token-index l.token-items) ≡ text_on Open l.token-items)
