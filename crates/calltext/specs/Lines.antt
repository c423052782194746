-- Lines of calls: which text is which call.
--
--   thread ROW    treadle ROW          tie TREADLE: SHAFT SHAFT ..
--   back          cell PICK END        part PICK END COUNT
--   floats KIND   fewest               hangs
--
-- and a line of blanks, or one that begins with #, says nothing.
use Rattle.std.specs.Prelude.{ℕ, Bool, true, false, cond, ◌&&◌, List, [], ◌∷◌, map, length, drop, codes, ◌==◌, slice_index}
use Rattle.weave.specs.Rows.{Row}
use Rattle.weave.specs.Calls.{Call, threads, treadles, ties, back, cell, part, floats, fewest, hangs}
use Rattle.tokens.specs.declared.Token.{Token}
use Rattle.tokens.specs.declared.Token.TheVariants.{Number, Run, Times, Turned, Open, Close, Colon}
use Rattle.tokens.specs.Tokens.{past_blanks, Cut, cut, uncut, tokens_of}
use Rattle.rowtext.specs.Rows.{Read, got, bad, row_of}
use Rattle.encoding.specs.declared.kinds.CallKind.{CallKind}
use Rattle.encoding.specs.declared.kinds.CallKind.TheVariants.{Thread, Treadle, Tie, Back, Cell, Part, Floats, Fewest, Hangs}

-- what a line says: nothing; a call, or several; or what can't be read
pub data Said : Type 0 where
  nothing : Said
  calls : List Call → Said
  unreadable : Said

-- a call with a row
unfoldable pub with_row : (Row → Call) → Read → Said
with_row f (got r ts) = calls (f r ∷ [])
with_row f bad = unreadable

-- tokens that are all numbers
pub data Numbers : Type 0 where
  numbers : List ℕ → Numbers
  others : Numbers

unfoldable pub before : ℕ → Numbers → Numbers
before n (numbers ns) = numbers (n ∷ ns)
before n others = others

unfoldable pub numbers_of : List Token → Numbers
numbers_of [] = numbers []
numbers_of (Number n ∷ ts) = before n (numbers_of ts)
numbers_of (Run a b ∷ ts) = others
numbers_of (Times n ∷ ts) = others
numbers_of (Turned ∷ ts) = others
numbers_of (Open ∷ ts) = others
numbers_of (Close ∷ ts) = others
numbers_of (Colon ∷ ts) = others

-- a call with k numbers
unfoldable pub with_numbers : ℕ → (List ℕ → Call) → Numbers → Said
with_numbers k f (numbers ns) = cond (length ns == k) (calls (f ns ∷ [])) unreadable
with_numbers k f others = unreadable

-- a tie for each shaft, of which there is at least one
unfoldable pub tie_each : ℕ → Numbers → Said
tie_each t (numbers []) = unreadable
tie_each t (numbers (s ∷ ss)) = calls (map (ties t) (s ∷ ss))
tie_each t others = unreadable

-- a treadle's shafts, after a colon
unfoldable pub after_treadle : ℕ → List Token → Said
after_treadle t [] = unreadable
after_treadle t (Number n ∷ ts) = unreadable
after_treadle t (Run a b ∷ ts) = unreadable
after_treadle t (Times n ∷ ts) = unreadable
after_treadle t (Turned ∷ ts) = unreadable
after_treadle t (Open ∷ ts) = unreadable
after_treadle t (Close ∷ ts) = unreadable
after_treadle t (Colon ∷ ts) = tie_each t (numbers_of ts)

-- a treadle and its shafts
unfoldable pub treadle_and_shafts : List Token → Said
treadle_and_shafts [] = unreadable
treadle_and_shafts (Number t ∷ ts) = after_treadle t ts
treadle_and_shafts (Run a b ∷ ts) = unreadable
treadle_and_shafts (Times n ∷ ts) = unreadable
treadle_and_shafts (Turned ∷ ts) = unreadable
treadle_and_shafts (Open ∷ ts) = unreadable
treadle_and_shafts (Close ∷ ts) = unreadable
treadle_and_shafts (Colon ∷ ts) = unreadable

-- what a word says with the tokens after it
unfoldable pub says : CallKind → List Token → Said
says Thread ts = with_row threads (row_of ts)
says Treadle ts = with_row treadles (row_of ts)
says Tie ts = treadle_and_shafts ts
says Back ts = with_numbers 0 (λ ns. back) (numbers_of ts)
says Cell ts = with_numbers 2 (λ ns. cell (slice_index ns 0) (slice_index ns 1)) (numbers_of ts)
says Part ts = with_numbers 3 (λ ns. part (slice_index ns 0) (slice_index ns 1) (slice_index ns 2)) (numbers_of ts)
says Floats ts = with_numbers 1 (λ ns. floats (slice_index ns 0)) (numbers_of ts)
says Fewest ts = with_numbers 0 (λ ns. fewest) (numbers_of ts)
says Hangs ts = with_numbers 0 (λ ns. hangs) (numbers_of ts)

-- the words, and how they are spelled
abbrev pub words : List CallKind
words = Thread ∷ Treadle ∷ Tie ∷ Back ∷ Cell ∷ Part ∷ Floats ∷ Fewest ∷ Hangs ∷ []

abbrev pub spelled : CallKind → List ℕ
spelled Thread = codes "thread"
spelled Treadle = codes "treadle"
spelled Tie = codes "tie"
spelled Back = codes "back"
spelled Cell = codes "cell"
spelled Part = codes "part"
spelled Floats = codes "floats"
spelled Fewest = codes "fewest"
spelled Hangs = codes "hangs"

-- whether the second text begins with the first
unfoldable pub begins : List ℕ → List ℕ → Bool
begins [] cs = true
begins (p ∷ ps) [] = false
begins (p ∷ ps) (c ∷ cs) = p == c && begins ps cs

-- a word, and the text after it
pub data Worded : Type 0 where
  worded : CallKind → List ℕ → Worded
  no_word : Worded

-- the first of some words that a text begins with
unfoldable pub word_in : List CallKind → List ℕ → Worded
word_in [] cs = no_word
word_in (w ∷ ws) cs = cond (begins (spelled w) cs) (worded w (drop (length (spelled w)) cs)) (word_in ws cs)

unfoldable pub says_cut : CallKind → Cut → Said
says_cut w (cut ts) = says w ts
says_cut w uncut = unreadable

unfoldable pub says_worded : Worded → Said
says_worded (worded w cs) = says_cut w (tokens_of cs)
says_worded no_word = unreadable

-- a line with no blanks before it
unfoldable pub says_text : List ℕ → Said
says_text [] = nothing
says_text (c ∷ cs) = cond (c == 35) nothing (says_worded (word_in words (c ∷ cs)))

-- what a line says
unfoldable pub line_says : List ℕ → Said
line_says cs = says_text (past_blanks cs)
