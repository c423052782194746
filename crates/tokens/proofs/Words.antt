-- A token's text is read as that token.
use Rattle.std.proofs.Common.{◌≡◌, ℕ, ◌+◌, ◌-◌, ◌*◌, ◌^◌, ◌<◌, ◌≤◌, true, false, eqb, leb, List, [], ◌∷◌, ◌++◌, length, get_or, decimal, refl, ap, ◌∙◌, append_assoc, arith, rules}
use Rattle.std.proofs.lemmas.Bool.{and_parts, lt-ltb, ne_eqb, leb-true}
use Rattle.std.proofs.lemmas.Str.Parse.{IsNumeralModel, numerals_by_fold}
use Rattle.std.proofs.lemmas.Fmt.{digits_decimal, digits_value-decimal, decimal_nonempty}
use Rattle.std.specs.Str.{all_ascii_digits}
use Rattle.std.specs.Char.{is_ascii_digit}
use Rattle.tokens.specs.declared.Token.{Token}
use Rattle.tokens.specs.declared.Token.TheVariants.{Number, Run, Times, Turned, Open, Close, Colon}
use Rattle.tokens.specs.Tokens.{token_text, is_blank, past_blanks, numbered, digits_in, numeral_in, taken, run_from, after_number, token_in, more}

abbrev pub value_on : ℕ → List ℕ → ℕ
value_on n [] = n
value_on n (c ∷ cs) = value_on (n * 10 + (c - 48)) cs

pub own : IsNumeralModel (λ ds. all_ascii_digits ds ≡ true) (value_on 0)
own = numerals_by_fold _ (search rules) value_on (search rules)

wide : (n : ℕ) → n < 4294967296 → n < 2 ^ 64
wide n h = omega (arith, h)

-- a text of at least one digit
abbrev pub Starts : List ℕ → Type 0
Starts ds = (c : ℕ) × (cs : List ℕ) × (ds ≡ c ∷ cs) × (48 ≤ c) × (c ≤ 57)

digit_range : (c : ℕ) → is_ascii_digit c ≡ true → (48 ≤ c) × (c ≤ 57)
digit_range c h = let p = and_parts (leb 48 c) (leb c 57) h in (leb-true 48 c p.0, leb-true c 57 p.1)

starts_from : (ds : List ℕ) → all_ascii_digits ds ≡ true → 0 < length ds → Starts ds
starts_from [] h k = absurd (omega arith)
starts_from (c ∷ cs) h k =
    let p = and_parts (is_ascii_digit c) (all_ascii_digits cs) h in
    let q = digit_range c p.0 in
    (c, cs, refl, q.0, q.1)

decimal_digits : (n : ℕ) → n < 4294967296 → all_ascii_digits (decimal n) ≡ true
decimal_digits n h = digits_decimal own n (wide n h)

pub decimal_starts : (n : ℕ) → n < 4294967296 → Starts (decimal n)
decimal_starts n h = starts_from (decimal n) (decimal_digits n h) (decimal_nonempty n (wide n h))

is_digit : (c : ℕ) → 48 ≤ c → c ≤ 57 → is_ascii_digit c ≡ true
is_digit c a b = search rules

digits_past : (ds rest : List ℕ) (n : ℕ) → all_ascii_digits ds ≡ true → digits_in n (ds ++ rest) ≡ digits_in (value_on n ds) rest
unfolding digits_in
digits_past [] rest n h = refl
digits_past (c ∷ cs) rest n h =
    let p = and_parts (is_ascii_digit c) (all_ascii_digits cs) h in
    rw p.0 (digits_past cs rest (n * 10 + (c - 48)) p.1)

pub digits_end : (rest : List ℕ) (n : ℕ) → is_ascii_digit (get_or rest 0 0) ≡ false → n < 4294967296 → digits_in n rest ≡ numbered n rest
unfolding digits_in
digits_end [] n e h = rw (lt-ltb n 4294967296 h) refl
digits_end (c ∷ cs) n e h = rw (e, lt-ltb n 4294967296 h) refl

pub first_digit : (ds rest : List ℕ) → Starts ds → is_ascii_digit (get_or (ds ++ rest) 0 0) ≡ true
first_digit ds rest (c, cs, e, a, b) = rw e (is_digit c a b)

pub number_back : (n : ℕ) (rest : List ℕ) → n < 4294967296 → is_ascii_digit (get_or rest 0 0) ≡ false → numeral_in (decimal n ++ rest) ≡ numbered n rest
unfolding numeral_in
number_back n rest h e =
    rw (first_digit (decimal n) rest (decimal_starts n h), digits_past (decimal n) rest 0 (decimal_digits n h), digits_value-decimal own n (wide n h)) (digits_end rest n e h)

-- where a digit comes first, a token is one with a number
number_first : (ds rest : List ℕ) → Starts ds → token_in (ds ++ rest) ≡ after_number (numeral_in (ds ++ rest))
unfolding token_in
number_first ds rest (c, cs, e, a, b) =
    rw e (rw (ne_eqb c 126 (λ q. omega arith), ne_eqb c 40 (λ q. omega arith), ne_eqb c 41 (λ q. omega arith), ne_eqb c 58 (λ q. omega arith)) refl)

-- numbers of four bytes
abbrev pub Fair : Token → Type 0
Fair (Number n) = n < 4294967296
Fair (Run a b) = (a < 4294967296) × (b < 4294967296)
Fair (Times n) = n < 4294967296
Fair Turned = Unit {0}
Fair Open = Unit {0}
Fair Close = Unit {0}
Fair Colon = Unit {0}

-- what may come after a number
abbrev pub Ends : List ℕ → Type 0
Ends rest = (is_ascii_digit (get_or rest 0 0) ≡ false) × (eqb (get_or rest 0 0) 45 ≡ false) × (eqb (get_or (past_blanks rest) 0 0) 120 ≡ false)

abbrev pub Follows : Token → List ℕ → Type 0
Follows (Number n) rest = Ends rest
Follows (Run a b) rest = Ends rest
Follows (Times n) rest = Unit {0}
Follows Turned rest = Unit {0}
Follows Open rest = Unit {0}
Follows Close rest = Unit {0}
Follows Colon rest = Unit {0}

pub token_back : (t : Token) (rest : List ℕ) → Fair t → Follows t rest → token_in (token_text t ++ rest) ≡ taken t rest
unfolding token_in after_number run_from past_blanks
token_back (Number n) rest h f =
    number_first (decimal n) rest (decimal_starts n h) ∙ rw (number_back n rest h f.0, f.1, f.2) refl
token_back (Run a b) rest h f =
    rw (append_assoc (decimal a) (45 ∷ decimal b) rest)
    (number_first (decimal a) (45 ∷ (decimal b ++ rest)) (decimal_starts a h.0)
    ∙ rw (number_back a (45 ∷ (decimal b ++ rest)) h.0 refl, number_back b rest h.1 f.0) refl)
token_back (Times n) rest h f =
    rw (append_assoc (decimal n) (32 ∷ 120 ∷ []) rest)
    (number_first (decimal n) (32 ∷ 120 ∷ rest) (decimal_starts n h) ∙ rw (number_back n (32 ∷ 120 ∷ rest) h refl) refl)
token_back Turned rest h f = refl
token_back Open rest h f = refl
token_back Close rest h f = refl
token_back Colon rest h f = refl

-- a token's text begins with no blank, and with no x
abbrev pub Begins : List ℕ → Type 0
Begins ds = (c : ℕ) × (cs : List ℕ) × (ds ≡ c ∷ cs) × (is_blank c ≡ false) × (eqb c 120 ≡ false)

not_blank : (c : ℕ) → 32 < c → is_blank c ≡ false
not_blank c h = rw (ne_eqb c 32 (λ q. omega arith), ne_eqb c 9 (λ q. omega arith), ne_eqb c 13 (λ q. omega arith)) refl

number_begins : (n : ℕ) (more : List ℕ) → n < 4294967296 → Begins (decimal n ++ more)
number_begins n more h =
    let s = decimal_starts n h in
    (s.0, s.1 ++ more, ap (λ l. l ++ more) s.2, not_blank s.0 (omega (arith, s.3)), ne_eqb s.0 120 (λ q. omega (arith, s.4)))

pub text_begins : (t : Token) (rest : List ℕ) → Fair t → Begins (token_text t ++ rest)
text_begins (Number n) rest h = number_begins n rest h
text_begins (Run a b) rest h = rw (append_assoc (decimal a) (45 ∷ decimal b) rest) (number_begins a (45 ∷ (decimal b ++ rest)) h.0)
text_begins (Times n) rest h = rw (append_assoc (decimal n) (32 ∷ 120 ∷ []) rest) (number_begins n (32 ∷ 120 ∷ rest) h)
text_begins Turned rest h = (126, rest, refl, refl, refl)
text_begins Open rest h = (40, rest, refl, refl, refl)
text_begins Close rest h = (41, rest, refl, refl, refl)
text_begins Colon rest h = (58, rest, refl, refl, refl)
