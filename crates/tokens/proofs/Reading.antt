-- How text is read, a byte or a token at a time.
use Rattle.std.proofs.Common.{◌≡◌, ℕ, suc, ◌+◌, ◌-◌, ◌*◌, ◌<◌, ◌≤◌, Bool, true, false, cond, eqb, ltb, List, [], ◌∷◌, length, get_or, drop, refl, inl, inr, arith}
use Rattle.std.proofs.lemmas.Bool.{le-ltb, ne_eqb, eq-eqb, cases_Bool}
use Rattle.std.specs.Char.{is_ascii_digit}
use Rattle.std.specs.List.{prefix_len}
use Rattle.tokens.specs.declared.Token.{Token}
use Rattle.tokens.specs.declared.Token.TheVariants.{Number, Run, Times, Turned, Open, Close, Colon}
use Rattle.tokens.specs.Tokens.{is_blank, past_blanks, Numbered, numbered, no_number, small, digits_in, numeral_in, Taken, taken, no_token, run_from, after_number, token_in}

-- a test that passes or fails on the first of a list, and how many pass from the front on
front_more : (p : ℕ → Bool) (c : ℕ) (cs : List ℕ) → p c ≡ true → prefix_len p (c ∷ cs) ≡ suc (prefix_len p cs)
front_more p c cs e = rw e (omega arith)

front_end : (p : ℕ → Bool) (c : ℕ) (cs : List ℕ) → p c ≡ false → prefix_len p (c ∷ cs) ≡ 0
front_end p c cs e = rw e refl

pub past_blanks_is : (bs : List ℕ) → past_blanks bs ≡ drop (prefix_len is_blank bs) bs
unfolding past_blanks
past_blanks_is [] = refl
past_blanks_is (c ∷ cs) =
    elim (cases_Bool (is_blank c)) [
      | inl e ↦ rw (front_more is_blank c cs e, e) (past_blanks_is cs)
      | inr e ↦ rw (front_end is_blank c cs e, e) refl
    ]

pub blanks_are_past : (bs : List ℕ) → 0 < length (past_blanks bs) → is_blank (get_or (past_blanks bs) 0 0) ≡ false
unfolding past_blanks
blanks_are_past [] h = absurd (omega arith)
blanks_are_past (c ∷ cs) h =
    elim (cases_Bool (is_blank c)) [
      | inl e ↦ rw e (blanks_are_past cs (rw e at h))
      | inr e ↦ rw e e
    ]

pub digits_on : (n : ℕ) (bs : List ℕ) → 0 < length bs → is_ascii_digit (get_or bs 0 0) ≡ true → digits_in n bs ≡ digits_in (n * 10 + (get_or bs 0 0 - 48)) (drop 1 bs)
unfolding digits_in
digits_on n [] h e = absurd (omega arith)
digits_on n (c ∷ cs) h e = rw e refl

small_not : (n : ℕ) (bs : List ℕ) → 4294967295 < n → small n bs ≡ no_number
small_not n bs h = rw (le-ltb n 4294967296 (omega arith)) refl

pub digits_big : (n : ℕ) (bs : List ℕ) → 4294967295 < n → digits_in n bs ≡ no_number
unfolding digits_in
digits_big n [] h = small_not n [] h
digits_big n (c ∷ cs) h =
    elim (cases_Bool (is_ascii_digit c)) [
      | inl e ↦ rw e (digits_big (n * 10 + (c - 48)) cs (omega arith))
      | inr e ↦ rw e (small_not n (c ∷ cs) h)
    ]

pub number_none : (bs : List ℕ) → is_ascii_digit (get_or bs 0 0) ≡ false → numeral_in bs ≡ no_number
unfolding numeral_in
number_none bs e = rw e refl

pub number_some : (bs : List ℕ) → is_ascii_digit (get_or bs 0 0) ≡ true → numeral_in bs ≡ digits_in 0 bs
unfolding numeral_in
number_some bs e = rw e refl

pub none_first : (bs : List ℕ) → length bs ≡ 0 → get_or bs 0 0 ≡ 0
none_first [] e = refl
none_first (c ∷ cs) e = absurd (omega arith)

pub none_not : (bs : List ℕ) (c : ℕ) → 0 < c → length bs < 1 → get_or bs 0 0 ≡ c → ⊥
none_not [] c h k e = absurd (omega arith)
none_not (b ∷ bs) c h k e = absurd (omega arith)

module _ (n : ℕ) (bs : List ℕ) where
  pub run_after : get_or bs 0 0 ≡ 45 → after_number (numbered n bs) ≡ run_from n (numeral_in (drop 1 bs))
  unfolding after_number
  run_after e = rw (eq-eqb (get_or bs 0 0) 45 e) refl

  pub times_after : (get_or bs 0 0 ≡ 45 → ⊥) → get_or (past_blanks bs) 0 0 ≡ 120 → after_number (numbered n bs) ≡ taken (Times n) (drop 1 (past_blanks bs))
  unfolding after_number
  times_after e f = rw (ne_eqb (get_or bs 0 0) 45 e, eq-eqb (get_or (past_blanks bs) 0 0) 120 f) refl

  pub number_alone : (get_or bs 0 0 ≡ 45 → ⊥) → (get_or (past_blanks bs) 0 0 ≡ 120 → ⊥) → after_number (numbered n bs) ≡ taken (Number n) bs
  unfolding after_number
  number_alone e f = rw (ne_eqb (get_or bs 0 0) 45 e, ne_eqb (get_or (past_blanks bs) 0 0) 120 f) refl

module _ (bs : List ℕ) where
  pub turned_first : get_or bs 0 0 ≡ 126 → token_in bs ≡ taken Turned (drop 1 bs)
  unfolding token_in
  turned_first e = rw (eq-eqb (get_or bs 0 0) 126 e) refl

  pub open_first : get_or bs 0 0 ≡ 40 → token_in bs ≡ taken Open (drop 1 bs)
  unfolding token_in
  open_first e = rw e refl

  pub close_first : get_or bs 0 0 ≡ 41 → token_in bs ≡ taken Close (drop 1 bs)
  unfolding token_in
  close_first e = rw e refl

  pub colon_first : get_or bs 0 0 ≡ 58 → token_in bs ≡ taken Colon (drop 1 bs)
  unfolding token_in
  colon_first e = rw e refl

  pub other_first : (get_or bs 0 0 ≡ 126 → ⊥) → (get_or bs 0 0 ≡ 40 → ⊥) → (get_or bs 0 0 ≡ 41 → ⊥) → (get_or bs 0 0 ≡ 58 → ⊥) → token_in bs ≡ after_number (numeral_in bs)
  unfolding token_in
  other_first e f g h = rw (ne_eqb (get_or bs 0 0) 126 e, ne_eqb (get_or bs 0 0) 40 f, ne_eqb (get_or bs 0 0) 41 g, ne_eqb (get_or bs 0 0) 58 h) refl

  pub other_none : length bs < 1 → token_in bs ≡ after_number (numeral_in bs)
  other_none h = other_first (none_not bs 126 (omega arith) h) (none_not bs 40 (omega arith) h) (none_not bs 41 (omega arith) h) (none_not bs 58 (omega arith) h)

pub not_number : after_number no_number ≡ no_token
unfolding after_number
not_number = refl

pub run_made : (a b : ℕ) (cs : List ℕ) → run_from a (numbered b cs) ≡ taken (Run a b) cs
unfolding run_from
run_made a b cs = refl

pub run_not : (a : ℕ) → run_from a no_number ≡ no_token
unfolding run_from
run_not a = refl

-- what is read is shorter
pub past_short : (bs : List ℕ) → length (past_blanks bs) ≤ length bs
unfolding past_blanks
past_short [] = omega arith
past_short (c ∷ cs) = elim (cases_Bool (is_blank c)) [ inl e ↦ rw e (omega (arith, past_short cs)) | inr e ↦ rw e (omega arith) ]

-- the text after a number is at most so long
abbrev Within : ℕ → Numbered → Type 0
Within k (numbered n cs) = length cs ≤ k
Within k no_number = Unit {0}

small_short : (n : ℕ) (bs : List ℕ) (k : ℕ) → length bs ≤ k → Within k (small n bs)
small_short n bs k h = elim (cases_Bool (ltb n 4294967296)) [ inl e ↦ rw e h | inr e ↦ rw e tt ]

digits_short : (n : ℕ) (bs : List ℕ) (k : ℕ) → length bs ≤ k → Within k (digits_in n bs)
unfolding digits_in
digits_short n [] k h = small_short n [] k h
digits_short n (c ∷ cs) k h = elim (cases_Bool (is_ascii_digit c)) [ inl e ↦ rw e (digits_short (n * 10 + (c - 48)) cs k (omega arith)) | inr e ↦ rw e (small_short n (c ∷ cs) k h) ]

number_short : (bs : List ℕ) (k : ℕ) → length bs ≤ suc k → Within k (numeral_in bs)
unfolding numeral_in digits_in
number_short [] k h = tt
number_short (c ∷ cs) k h = elim (cases_Bool (is_ascii_digit c)) [ inl e ↦ rw e (digits_short (0 + (c - 48)) cs k (omega arith)) | inr e ↦ rw e tt ]

abbrev Inside : ℕ → Taken → Type 0
Inside k (taken t cs) = length cs ≤ k
Inside k no_token = Unit {0}

drop_short : (bs : List ℕ) → length (drop 1 bs) ≤ length bs
drop_short [] = omega arith
drop_short (c ∷ cs) = omega arith

run_short : (a k : ℕ) (x : Numbered) → Within k x → Inside k (run_from a x)
unfolding run_from
run_short a k (numbered b cs) h = h
run_short a k no_number h = tt

cond_inside : (b : Bool) (k : ℕ) (x y : Taken) → Inside k x → Inside k y → Inside k (cond b x y)
cond_inside true k x y f g = f
cond_inside false k x y f g = g

after_short : (k : ℕ) (x : Numbered) → Within k x → Inside k (after_number x)
unfolding after_number
after_short k (numbered n cs) h =
    cond_inside (eqb (get_or cs 0 0) 45) k (run_from n (numeral_in (drop 1 cs))) _
    (run_short n k (numeral_in (drop 1 cs)) (number_short (drop 1 cs) k (omega (arith, drop_short cs))))
    (cond_inside (eqb (get_or (past_blanks cs) 0 0) 120) k (taken (Times n) (drop 1 (past_blanks cs))) (taken (Number n) cs)
    (omega (arith, drop_short (past_blanks cs), past_short cs)) h)
after_short k no_number h = tt

token_inside : (bs : List ℕ) (k : ℕ) → 0 < length bs → length bs ≤ suc k → Inside k (token_in bs)
unfolding token_in
token_inside [] k h le = absurd (omega arith)
token_inside (c ∷ cs) k h le =
    cond_inside (eqb c 126) k (taken Turned cs) _ (omega arith)
    (cond_inside (eqb c 40) k (taken Open cs) _ (omega arith)
    (cond_inside (eqb c 41) k (taken Close cs) _ (omega arith)
    (cond_inside (eqb c 58) k (taken Colon cs) (after_number (numeral_in (c ∷ cs))) (omega arith) (after_short k (numeral_in (c ∷ cs)) (number_short (c ∷ cs) k le)))))

pub token_shorter : (bs : List ℕ) (t : Token) (rest : List ℕ) → 0 < length bs → taken t rest ≡ token_in bs → length rest < length bs
token_shorter bs t rest h e =
    let z : Inside (length bs - 1) (taken t rest) = rw (← e) at (token_inside bs (length bs - 1) h (omega arith)) in
    omega (arith, z)
