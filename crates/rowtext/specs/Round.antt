-- Rows as text: what is printed is read again, and what is read of a plain list is not deep.
use Rattle.std.specs.Prelude.{◌≡◌, ℕ, suc, ◌^◌, ◌<◌, ◌≤◌, Bool, true, false, List, [], ◌∷◌, ◌++◌, length}
use Rattle.weave.specs.Rows.{Row, run, deep, written}
use Rattle.weave.specs.Promise.{fields_in}
use Rattle.tokens.specs.declared.Token.{Token}
use Rattle.tokens.specs.declared.Token.TheVariants.{Number, Run, Times, Turned, Open, Close, Colon}
use Rattle.tokens.specs.Tokens.{tokens_text, Cut, cut, uncut, tokens_of}
use Rattle.rowtext.specs.Rows.{row_tokens, Read, got, bad, row_of}

-- the text of a row
unfoldable pub row_text : Row → List ℕ
row_text r = tokens_text (row_tokens r)

unfoldable pub row_of_cut : Cut → Read
row_of_cut (cut ts) = row_of ts
row_of_cut uncut = bad

-- the row that a text is
unfoldable pub text_row : List ℕ → Read
text_row cs = row_of_cut (tokens_of cs)

-- a row that is printed and read back is the same, part by part
abbrev pub ReadsBack : Type 0
ReadsBack = (r : Row) → fields_in r ≡ true → deep r < 256 → text_row (row_text r) ≡ got r []

-- just numbers and runs
unfoldable pub plain : List Token → Bool
plain [] = true
plain (Number n ∷ ts) = plain ts
plain (Run a b ∷ ts) = plain ts
plain (Times n ∷ ts) = false
plain (Turned ∷ ts) = false
plain (Open ∷ ts) = false
plain (Close ∷ ts) = false
plain (Colon ∷ ts) = false

-- the numbers of numbers and runs, one after the other
unfoldable pub listed : List Token → List ℕ
listed [] = []
listed (Number n ∷ ts) = n ∷ listed ts
listed (Run a b ∷ ts) = written (run a b) ++ listed ts
listed (Times n ∷ ts) = listed ts
listed (Turned ∷ ts) = listed ts
listed (Open ∷ ts) = listed ts
listed (Close ∷ ts) = listed ts
listed (Colon ∷ ts) = listed ts

-- a text of up to 2 ^ k numbers and runs is a row, of just these numbers, and at most k + 1 deep
abbrev pub ListsAreShallow : Type 0
ListsAreShallow =
    (cs : List ℕ) (ts : List Token) (k : ℕ) → tokens_of cs ≡ cut ts → plain ts ≡ true → 0 < length ts → length ts ≤ 2 ^ k → k < 255 →
    (r : Row) × (text_row cs ≡ got r []) × (written r ≡ listed ts) × (deep r ≤ suc k)
