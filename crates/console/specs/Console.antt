-- What is told of calls and of lines of text, and what they leave of lent memory.
use Rattle.std.specs.Prelude.{ℕ, cond, List, [], ◌∷◌, ◌++◌, map, replicate, ◌==◌}
use Rattle.weave.specs.Calls.{Answer, refused, number, two, cells, together, over_all}
use Rattle.encoding.specs.Numbers.{placed}
use Rattle.encoding.specs.Calls.{call_bytes}
use Rattle.encoding.specs.Answers.{FirstAnswer, answers, no_answer, first_answer}
use Rattle.session.specs.Session.{says, leaves}
use Rattle.calltext.specs.Lines.{Said, nothing, calls, unreadable}
use Rattle.answertext.specs.Answers.{answer_text}

-- an answer as it is told of a line: what can't be read is refused at the line
unfoldable pub told_at : ℕ → Answer → Answer
told_at line (refused j k) = cond (j == 1) (refused 1 line) (refused j k)
told_at line (number n) = number n
told_at line (two m n) = two m n
told_at line (cells bs) = cells bs
told_at line together = together
told_at line (over_all ss ts) = over_all ss ts

-- the answer that bytes say, as it is told; what is no answer is refused as what can't be read
unfoldable pub told : ℕ → FirstAnswer → Answer
told line (answers a bs) = told_at line a
told line no_answer = refused 1 line

-- what is told of the call that bytes are, of a desk in lent words
unfoldable pub told_of : List ℕ → List ℕ → ℕ → Answer
told_of m bs line = told line (first_answer (placed (replicate 160 0) 0 (says m bs)))

-- the line of an answer
abbrev pub line_text : Answer → List ℕ
line_text a = answer_text a ++ (10 ∷ [])

-- what calls leave, one after the other, of which the bytes are given
unfoldable pub after_calls : List ℕ → List (List ℕ) → List ℕ
after_calls m [] = m
after_calls m (bs ∷ bss) = after_calls (leaves m bs) bss

-- the lines that are told of them, where the calls stand in a line
unfoldable pub calls_text : List ℕ → ℕ → List (List ℕ) → List ℕ
calls_text m line [] = []
calls_text m line (bs ∷ bss) = line_text (told_of m bs line) ++ calls_text (leaves m bs) line bss

-- what a line leaves that says this
unfoldable pub after_line : List ℕ → Said → List ℕ
after_line m nothing = m
after_line m (calls cs) = after_calls m (map call_bytes cs)
after_line m unreadable = m

-- and what is told of it, where it has this number
unfoldable pub answers_text : List ℕ → ℕ → Said → List ℕ
answers_text m line nothing = []
answers_text m line (calls cs) = calls_text m line (map call_bytes cs)
answers_text m line unreadable = line_text (refused 1 line)
