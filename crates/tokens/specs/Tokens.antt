-- Tokens as text, written and read.
use Rattle.std.specs.Prelude.{ℕ, zero, suc, ◌+◌, ◌-◌, ◌*◌, Bool, true, false, cond, ◌||◌, List, [], ◌∷◌, ◌++◌, length, drop, decimal, ◌==◌, nat_lt, slice_index}
use Rattle.std.specs.Char.{is_ascii_digit}
use Rattle.tokens.specs.declared.Token.{Token}
use Rattle.tokens.specs.declared.Token.TheVariants.{Number, Run, Times, Turned, Open, Close, Colon}

-- a token alone: 5, 0-7, 12 x, ~, (, ) and :
abbrev pub token_text : Token → List ℕ
token_text (Number n) = decimal n
token_text (Run a b) = decimal a ++ (45 ∷ decimal b)
token_text (Times n) = decimal n ++ (32 ∷ 120 ∷ [])
token_text Turned = 126 ∷ []
token_text Open = 40 ∷ []
token_text Close = 41 ∷ []
token_text Colon = 58 ∷ []

-- no blank stands after ~ and (
abbrev pub opens : Token → Bool
opens (Number n) = false
opens (Run a b) = false
opens (Times n) = false
opens Turned = true
opens Open = true
opens Close = false
opens Colon = false

-- and none before ) and :
abbrev pub closes : Token → Bool
closes (Number n) = false
closes (Run a b) = false
closes (Times n) = false
closes Turned = false
closes Open = false
closes Close = true
closes Colon = true

-- what stands between two tokens
abbrev pub gap : Token → Token → List ℕ
gap t u = cond (opens t || closes u) [] (32 ∷ [])

-- the text of tokens that come after a token t
unfoldable pub text_on : Token → List Token → List ℕ
text_on t [] = []
text_on t (u ∷ ts) = gap t u ++ (token_text u ++ text_on u ts)

-- the text of tokens
unfoldable pub tokens_text : List Token → List ℕ
tokens_text ts = text_on Open ts

-- a space, a tab, or the carriage return that stands before a newline
abbrev pub is_blank : ℕ → Bool
is_blank c = (c == 32 || c == 9) || c == 13

unfoldable pub past_blanks : List ℕ → List ℕ
past_blanks [] = []
past_blanks (c ∷ cs) = cond (is_blank c) (past_blanks cs) (c ∷ cs)

-- a number, and the text after it
pub data Numbered : Type 0 where
  numbered : ℕ → List ℕ → Numbered
  no_number : Numbered

-- a number, if it has four bytes
abbrev pub small : ℕ → List ℕ → Numbered
small n cs = cond (nat_lt n 4294967296) (numbered n cs) no_number

-- the digits at the front, after those of a number n
unfoldable pub digits_in : ℕ → List ℕ → Numbered
digits_in n [] = small n []
digits_in n (c ∷ cs) = cond (is_ascii_digit c) (digits_in (n * 10 + (c - 48)) cs) (small n (c ∷ cs))

-- the number at the front
unfoldable pub numeral_in : List ℕ → Numbered
numeral_in cs = cond (is_ascii_digit (slice_index cs 0)) (digits_in 0 cs) no_number

-- a token, and the text after it
pub data Taken : Type 0 where
  taken : Token → List ℕ → Taken
  no_token : Taken

unfoldable pub run_from : ℕ → Numbered → Taken
run_from a (numbered b cs) = taken (Run a b) cs
run_from a no_number = no_token

-- a number with - right behind it begins a run; with an x behind it, blanks or not, it is so many times
unfoldable pub after_number : Numbered → Taken
after_number (numbered n cs) =
    cond (slice_index cs 0 == 45) (run_from n (numeral_in (drop 1 cs)))
    (cond (slice_index (past_blanks cs) 0 == 120) (taken (Times n) (drop 1 (past_blanks cs))) (taken (Number n) cs))
after_number no_number = no_token

-- the token at the front
unfoldable pub token_in : List ℕ → Taken
token_in cs =
    cond (slice_index cs 0 == 126) (taken Turned (drop 1 cs))
    (cond (slice_index cs 0 == 40) (taken Open (drop 1 cs))
    (cond (slice_index cs 0 == 41) (taken Close (drop 1 cs))
    (cond (slice_index cs 0 == 58) (taken Colon (drop 1 cs)) (after_number (numeral_in cs)))))

-- all tokens of a text
pub data Cut : Type 0 where
  cut : List Token → Cut
  uncut : Cut

unfoldable pub before : Token → Cut → Cut
before t (cut ts) = cut (t ∷ ts)
before t uncut = uncut

unfoldable pub more : (List ℕ → Cut) → Taken → Cut
more f (taken t cs) = before t (f cs)
more f no_token = uncut

-- tokens and blanks, at most k
unfoldable pub tokens_in : ℕ → List ℕ → Cut
tokens_in k [] = cut []
tokens_in zero (c ∷ cs) = uncut
tokens_in (suc k) (c ∷ cs) = cond (is_blank c) (tokens_in k cs) (more (tokens_in k) (token_in (c ∷ cs)))

unfoldable pub tokens_of : List ℕ → Cut
tokens_of cs = tokens_in (length cs) cs
