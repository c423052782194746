-- The text of tokens is read as those tokens.
use Rattle.std.proofs.Common.{◌≡◌, ℕ, zero, suc, ◌-◌, ◌<◌, ◌≤◌, Bool, true, false, cond, ◌||◌, List, [], ◌∷◌, ◌++◌, length, refl, ap, ◌∙◌, sub-one, arith, length-append}
use Rattle.tokens.specs.declared.Token.{Token}
use Rattle.tokens.specs.declared.Token.TheVariants.{Number, Run, Times, Turned, Open, Close, Colon}
use Rattle.tokens.specs.Tokens.{token_text, opens, closes, text_on, tokens_text, past_blanks, token_in, Cut, cut, before, more, tokens_in, tokens_of}
use Rattle.tokens.proofs.Words.{Fair, Ends, Follows, token_back, Begins, text_begins}

abbrev pub AllFair : List Token → Type 0
AllFair [] = Unit {0}
AllFair (t ∷ ts) = Fair t × AllFair ts

blank_ends : (xs : List ℕ) → Begins xs → Ends (32 ∷ xs)
unfolding past_blanks
blank_ends xs (c, cs, e, a, b) = rw e (refl, refl, rw (a, b) refl)

-- after a number comes the end, a parenthesis that closes, a colon, or a blank and a token
number_ends : (t : Token) (ts : List Token) → opens t ≡ false → AllFair ts → Ends (text_on t ts)
unfolding text_on past_blanks
number_ends t [] e h = (refl, refl, refl)
number_ends t (Number n ∷ ts) e h = rw e (blank_ends _ (text_begins (Number n) (text_on (Number n) ts) h.0))
number_ends t (Run a b ∷ ts) e h = rw e (blank_ends _ (text_begins (Run a b) (text_on (Run a b) ts) h.0))
number_ends t (Times n ∷ ts) e h = rw e (blank_ends _ (text_begins (Times n) (text_on (Times n) ts) h.0))
number_ends t (Turned ∷ ts) e h = rw e (blank_ends _ (text_begins Turned (text_on Turned ts) h.0))
number_ends t (Open ∷ ts) e h = rw e (blank_ends _ (text_begins Open (text_on Open ts) h.0))
number_ends t (Close ∷ ts) e h = rw e (refl, refl, refl)
number_ends t (Colon ∷ ts) e h = rw e (refl, refl, refl)

follows : (t : Token) (ts : List Token) → AllFair ts → Follows t (text_on t ts)
follows (Number n) ts h = number_ends (Number n) ts refl h
follows (Run a b) ts h = number_ends (Run a b) ts refl h
follows (Times n) ts h = tt
follows Turned ts h = tt
follows Open ts h = tt
follows Close ts h = tt
follows Colon ts h = tt

-- a token that is not blank is taken
take_one : (k : ℕ) (xs : List ℕ) → Begins xs → length xs ≤ k → tokens_in k xs ≡ more (tokens_in (k - 1)) (token_in xs)
unfolding tokens_in
take_one zero xs (c, cs, e, a, b) h = absurd (omega (arith, ap length e))
take_one (suc k) xs (c, cs, e, a, b) h = rw e (rw (a, sub-one) refl)

past_gap : (b : Bool) (xs : List ℕ) (x : Cut) → ((k : ℕ) → length xs ≤ k → tokens_in k xs ≡ x) → (k : ℕ) → length (cond b [] (32 ∷ []) ++ xs) ≤ k → tokens_in k (cond b [] (32 ∷ []) ++ xs) ≡ x
unfolding tokens_in
past_gap true xs x f k h = f k h
past_gap false xs x f zero h = absurd (omega arith)
past_gap false xs x f (suc k) h = f k (omega arith)

some_text : (u : Token) → Fair u → 0 < length (token_text u)
some_text u f = let b = text_begins u [] f in omega (arith, ap length b.2, length-append (token_text u) [])

text_back : (u : Token) (ts : List Token) (k : ℕ) → Fair u → AllFair ts → ((k : ℕ) → length (text_on u ts) ≤ k → tokens_in k (text_on u ts) ≡ cut ts) → length (token_text u ++ text_on u ts) ≤ k → tokens_in k (token_text u ++ text_on u ts) ≡ cut (u ∷ ts)
unfolding more before
text_back u ts k fu h f le =
    let b = text_begins u (text_on u ts) fu in
    let w : 0 < length (token_text u) = some_text u fu in
    take_one k (token_text u ++ text_on u ts) b le
    ∙ rw (token_back u (text_on u ts) fu (follows u ts h), f (k - 1) (omega (arith, length-append (token_text u) (text_on u ts)))) refl

text_on_back : (t : Token) (ts : List Token) (k : ℕ) → AllFair ts → length (text_on t ts) ≤ k → tokens_in k (text_on t ts) ≡ cut ts
unfolding text_on tokens_in
text_on_back t [] k h le = refl
text_on_back t (u ∷ ts) k h le =
    past_gap (opens t || closes u) (token_text u ++ text_on u ts) (cut (u ∷ ts)) (λ k le. text_back u ts k h.0 h.1 (λ k le. text_on_back u ts k h.1 le) le) k le

pub tokens_back : (ts : List Token) → AllFair ts → tokens_of (tokens_text ts) ≡ cut ts
unfolding tokens_of tokens_text
tokens_back ts h = text_on_back Open ts (length (text_on Open ts)) h (omega arith)
