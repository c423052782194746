-- Calls as lines: each call has a line that is read as just that call.
use Rattle.std.specs.Prelude.{◌≡◌, ℕ, true, List, [], ◌∷◌, ◌++◌, codes, decimal}
use Rattle.weave.specs.Calls.{Call, threads, treadles, ties, back, cell, part, floats, fewest, hangs, garbled}
use Rattle.weave.specs.Promise.{readable}
use Rattle.encoding.specs.Calls.{any}
use Rattle.rowtext.specs.Round.{row_text}
use Rattle.calltext.specs.Lines.{calls, line_says}

-- a line for a call; what can't be read has none
unfoldable pub call_line : Call → List ℕ
call_line (threads r) = codes "thread " ++ row_text r
call_line (treadles r) = codes "treadle " ++ row_text r
call_line (ties t s) = codes "tie " ++ (decimal t ++ (codes ": " ++ decimal s))
call_line back = codes "back"
call_line (cell p e) = codes "cell " ++ (decimal p ++ (32 ∷ decimal e))
call_line (part p e n) = codes "part " ++ (decimal p ++ (32 ∷ (decimal e ++ (32 ∷ decimal n))))
call_line (floats k) = codes "floats " ++ decimal k
call_line fewest = codes "fewest"
call_line hangs = codes "hangs"
call_line (garbled n) = []

-- a call's line is read as just that call
abbrev pub LinesReadBack : Type 0
LinesReadBack = (c : Call) → any c ≡ true → readable c ≡ true → line_says (call_line c) ≡ calls (c ∷ [])
