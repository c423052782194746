-- Answers as text:
--
--   a number           3
--   two numbers        4 4
--   cells              ||--    (| where the warp is over)
--   together           yes
--   shafts, treadles   over: shafts 0 2 treadles 0 2    (a word without numbers is left out)
--   a refusal          refused 2 at 0
use Rattle.std.specs.Prelude.{◌≡◌, ℕ, suc, ◌≤◌, Bool, true, cond, List, [], ◌∷◌, ◌++◌, map, length, codes, decimal}
use Rattle.weave.specs.Calls.{Answer, refused, number, two, cells, together, over_all}
use Rattle.weave.specs.Promise.{field}
use Rattle.encoding.specs.Laws.{filled}

-- which numbers are in a set, of which the first is k
unfoldable pub members : ℕ → List Bool → List ℕ
members k [] = []
members k (b ∷ bs) = cond b (k ∷ members (suc k) bs) (members (suc k) bs)

-- numbers, each after a blank
unfoldable pub listed : List ℕ → List ℕ
listed [] = []
listed (n ∷ ns) = 32 ∷ (decimal n ++ listed ns)

-- a word and its numbers, or nothing if there are none
unfoldable pub named : List ℕ → List ℕ → List ℕ
named word [] = []
named word (n ∷ ns) = 32 ∷ (word ++ listed (n ∷ ns))

-- a cell: | or -
abbrev pub cell_text : Bool → ℕ
cell_text b = cond b 124 45

-- the text of an answer
unfoldable pub answer_text : Answer → List ℕ
answer_text (refused j k) = codes "refused " ++ (decimal j ++ (codes " at " ++ decimal k))
answer_text (number n) = decimal n
answer_text (two m n) = decimal m ++ (32 ∷ decimal n)
answer_text (cells bs) = map cell_text bs
answer_text together = codes "yes"
answer_text (over_all ss ts) = codes "over:" ++ (named (codes "shafts") (members 0 ss) ++ named (codes "treadles") (members 0 ts))

-- an answer of a desk of s shafts and t treadles, with numbers of four bytes
abbrev pub OfDesk : ℕ → ℕ → Answer → Type 0
OfDesk s t (refused j k) = (field j ≡ true) × (field k ≡ true)
OfDesk s t (number n) = field n ≡ true
OfDesk s t (two m n) = (field m ≡ true) × (field n ≡ true)
OfDesk s t (cells bs) = Unit {0}
OfDesk s t together = Unit {0}
OfDesk s t (over_all ss ts) = (length ss ≡ s) × (length ts ≡ t)

-- the text tells just the answer: two different answers of a desk never have the same
abbrev pub TellsTheAnswer : Type 0
TellsTheAnswer = (s t : ℕ) (a b : Answer) → s ≤ 64 → t ≤ 64 → OfDesk s t a → OfDesk s t b → answer_text a ≡ answer_text b → a ≡ b

-- sets that are filled up to 64 have the same text
abbrev pub FilledAlike : Type 0
FilledAlike = (a : Answer) → answer_text (filled a) ≡ answer_text a
