-- What words say.
use Rattle.std.proofs.Common.{◌≡◌, ℕ, ◌<◌, List, [], ◌∷◌, ◌++◌, length, get_or, drop, Ok, Err, Result, ◌⊎◌, inl, inr, sym, refl, ap, ◌∙◌, arith}
use Rattle.std.proofs.lemmas.Bool.{eq-eqb, ne_eqb}
use Rattle.weave.specs.Rows.{Row}
use Rattle.weave.specs.Calls.{Call, threads, treadles, ties, back, fewest, hangs}
use Rattle.encoding.specs.Numbers.{four, fours}
use Rattle.encoding.specs.Rows.{row_bytes}
use Rattle.encoding.specs.Calls.{call_bytes}
use Rattle.tokens.specs.declared.TextError.{TextError}
use Rattle.tokens.specs.declared.TextError.TheVariants.{Unreadable, Memory}
use Rattle.tokens.specs.declared.Token.{Token}
use Rattle.tokens.specs.declared.Token.TheVariants.{Number, Run, Times, Turned, Open, Close, Colon}
use Rattle.tokens.specs.Tokens.{past_blanks, cut, uncut, tokens_of}
use Rattle.rowtext.specs.Rows.{Read, bad, row_of}
use Rattle.encoding.specs.declared.kinds.CallKind.{CallKind}
use Rattle.encoding.specs.declared.kinds.CallKind.TheVariants.{Thread, Treadle, Back, Fewest, Hangs}
use Rattle.encoding.specs.Kinds.{call_byte}
use Rattle.calltext.specs.Lines.{Said, nothing, unreadable, with_row, Numbers, numbers, others, numbers_of, with_numbers, tie_each, after_treadle, treadle_and_shafts, says, words, Worded, worded, no_word, word_in, says_cut, says_worded, says_text, line_says}
use Rattle.rowtext.specs.Results.{Put}
use Rattle.calltext.specs.Results.{Returned, PutNumbers, NumberCall, RowCall, AreCalls}

-- what is returned, known otherwise
pub returned : {V : Type 0} (r : Result V TextError) (P P' : V → Type 0) (Q Q' : Type 0) → ((v : V) → P v → P' v) → (Q → Q') → Returned r P Q → Returned r P' Q'
returned (Ok v) P P' Q Q' f g h = f v h
returned (Err Unreadable) P P' Q Q' f g h = g h
returned (Err Memory) P P' Q Q' f g h = tt

-- a call with a row
module _ (f : Row → Call) (kind : ℕ) (is : (r : Row) → kind ∷ row_bytes r ≡ call_bytes (f r)) (x : Read) where
  row_says : (bss : List (List ℕ)) → RowCall x kind bss → AreCalls (with_row f x) bss
  unfolding with_row
  row_says bss p = record { these = f p.row ∷ []; so = ap (with_row f) p.so; bytes = p.bytes ∙ ap (λ bs. bs ∷ []) (is p.row) }

  row_not : x ≡ bad → with_row f x ≡ unreadable
  unfolding with_row
  row_not e = ap (with_row f) e

  pub row_returned : {V : Type 0} (r : Result V TextError) (items : V → List (List ℕ)) →
      Returned r (λ v. RowCall x kind (items v)) (x ≡ bad) → Returned r (λ v. AreCalls (with_row f x) (items v)) (with_row f x ≡ unreadable)
  row_returned r items h = returned r _ _ _ _ (λ v p. row_says (items v) p) row_not h

-- a call with n numbers
module _ (f : List ℕ → Call) (kind n : ℕ) (is : (ns : List ℕ) → length ns ≡ n → kind ∷ fours ns ≡ call_bytes (f ns)) where
  numbers_say : (x : Numbers) (bss : List (List ℕ)) → NumberCall x kind n bss → AreCalls (with_numbers n f x) bss
  unfolding with_numbers
  numbers_say x bss p = record {
    these = f p.these ∷ [];
    so = ap (with_numbers n f) p.so ∙ rw (eq-eqb (length p.these) n p.many) refl;
    bytes = p.bytes ∙ ap (λ bs. bs ∷ []) (is p.these p.many);
  }

  numbers_not : (x : Numbers) → ((ns : List ℕ) → x ≡ numbers ns → length ns ≡ n → ⊥) → with_numbers n f x ≡ unreadable
  unfolding with_numbers
  numbers_not (numbers ns) h = rw (ne_eqb (length ns) n (h ns refl)) refl
  numbers_not others h = refl

  pub numbers_returned : {V : Type 0} (r : Result V TextError) (items : V → List (List ℕ)) (x : Numbers) →
      Returned r (λ v. NumberCall x kind n (items v)) ((ns : List ℕ) → x ≡ numbers ns → length ns ≡ n → ⊥) → Returned r (λ v. AreCalls (with_numbers n f x) (items v)) (with_numbers n f x ≡ unreadable)
  numbers_returned r items x h = returned r _ _ _ _ (λ v p. numbers_say x (items v) p) (numbers_not x) h

pub bytes_none : (kind : ℕ) (ns : List ℕ) → length ns ≡ 0 → kind ∷ fours ns ≡ kind ∷ []
bytes_none kind [] h = refl
bytes_none kind (n ∷ ns) h = absurd (omega arith)

pub bytes_one : (kind : ℕ) (ns : List ℕ) → length ns ≡ 1 → kind ∷ fours ns ≡ kind ∷ four (get_or ns 0 0)
bytes_one kind [] h = absurd (omega arith)
bytes_one kind (m ∷ []) h = refl
bytes_one kind (m ∷ n ∷ ns) h = absurd (omega arith)

pub bytes_two : (kind : ℕ) (ns : List ℕ) → length ns ≡ 2 → kind ∷ fours ns ≡ kind ∷ (four (get_or ns 0 0) ++ four (get_or ns 1 0))
bytes_two kind [] h = absurd (omega arith)
bytes_two kind (m ∷ ns) h = ap (λ l. kind ∷ (four m ++ l)) (go ns (omega arith))
  where
    go : (ns : List ℕ) → length ns ≡ 1 → fours ns ≡ four (get_or ns 0 0)
    go ns e = ap (drop 1) (bytes_one kind ns e)

pub bytes_three : (kind : ℕ) (ns : List ℕ) → length ns ≡ 3 → kind ∷ fours ns ≡ kind ∷ (four (get_or ns 0 0) ++ (four (get_or ns 1 0) ++ four (get_or ns 2 0)))
bytes_three kind [] h = absurd (omega arith)
bytes_three kind (m ∷ ns) h = ap (λ l. kind ∷ (four m ++ l)) (ap (drop 1) (bytes_two kind ns (omega arith)))

-- kinds with a row, and kinds with no numbers
module _ {V : Type 0} (r : Result V TextError) (items : V → List (List ℕ)) (k : CallKind) (ts : List Token) where
  pub row_said : (k ≡ Thread) ⊎ (k ≡ Treadle) → Returned r (λ v. RowCall (row_of ts) (call_byte k) (items v)) (row_of ts ≡ bad) → Returned r (λ v. AreCalls (says k ts) (items v)) (says k ts ≡ unreadable)
  unfolding says call_bytes
  row_said (inl e) h = rw e (row_returned threads 0 (λ r. refl) (row_of ts) r items (rw e at h))
  row_said (inr e) h = rw e (row_returned treadles 1 (λ r. refl) (row_of ts) r items (rw e at h))

  pub none_said : (k ≡ Back) ⊎ ((k ≡ Fewest) ⊎ (k ≡ Hangs)) → Returned r (λ v. NumberCall (numbers_of ts) (call_byte k) 0 (items v)) ((ns : List ℕ) → numbers_of ts ≡ numbers ns → length ns ≡ 0 → ⊥) →
      Returned r (λ v. AreCalls (says k ts) (items v)) (says k ts ≡ unreadable)
  unfolding says call_bytes
  none_said (inl e) h = rw e (numbers_returned (λ (ns : List ℕ). back) 3 0 (bytes_none 3) r items (numbers_of ts) (rw e at h))
  none_said (inr (inl e)) h = rw e (numbers_returned (λ (ns : List ℕ). fewest) 7 0 (bytes_none 7) r items (numbers_of ts) (rw e at h))
  none_said (inr (inr e)) h = rw e (numbers_returned (λ (ns : List ℕ). hangs) 8 0 (bytes_none 8) r items (numbers_of ts) (rw e at h))

-- a tie
module _ (ts : List Token) where
  pub tie_short : length ts < 2 → treadle_and_shafts ts ≡ unreadable
  unfolding treadle_and_shafts after_treadle
  tie_short h = go ts h
    where
      go : (ts : List Token) → length ts < 2 → treadle_and_shafts ts ≡ unreadable
      go [] h = refl
      go (Number t ∷ []) h = refl
      go (Run a b ∷ []) h = refl
      go (Times n ∷ []) h = refl
      go (Turned ∷ []) h = refl
      go (Open ∷ []) h = refl
      go (Close ∷ []) h = refl
      go (Colon ∷ []) h = refl
      go (x ∷ y ∷ ts) h = absurd (omega arith)

  two_first : (t u : Token) → 1 < length ts → get_or ts 0 (Number 0) ≡ t → get_or ts 1 (Number 0) ≡ u → ts ≡ t ∷ u ∷ drop 2 ts
  two_first t u h e f = go ts h e f
    where
      go : (ts : List Token) → 1 < length ts → get_or ts 0 (Number 0) ≡ t → get_or ts 1 (Number 0) ≡ u → ts ≡ t ∷ u ∷ drop 2 ts
      go [] h e f = absurd (omega arith)
      go (x ∷ []) h e f = absurd (omega arith)
      go (x ∷ y ∷ ts) h e f = rw (e, f) refl

  pub tie_is : (t : ℕ) → 1 < length ts → get_or ts 0 (Number 0) ≡ Number t → get_or ts 1 (Number 0) ≡ Colon → treadle_and_shafts ts ≡ tie_each t (numbers_of (drop 2 ts))
  unfolding treadle_and_shafts after_treadle
  tie_is t h e f = ap treadle_and_shafts (two_first (Number t) Colon h e f)

  pub no_treadle : 1 < length ts → ((n : ℕ) → get_or ts 0 (Number 0) ≡ Number n → ⊥) → treadle_and_shafts ts ≡ unreadable
  unfolding treadle_and_shafts
  no_treadle h no_number = ap treadle_and_shafts (two_first _ _ h refl refl) ∙ go (get_or ts 0 (Number 0)) no_number
    where
      go : (t : Token) → ((n : ℕ) → t ≡ Number n → ⊥) → treadle_and_shafts (t ∷ get_or ts 1 (Number 0) ∷ drop 2 ts) ≡ unreadable
      go (Number n) h = absurd (h n refl)
      go (Run a b) h = refl
      go (Times n) h = refl
      go Turned h = refl
      go Open h = refl
      go Close h = refl
      go Colon h = refl

  pub no_colon : 1 < length ts → (get_or ts 1 (Number 0) ≡ Colon → ⊥) → treadle_and_shafts ts ≡ unreadable
  unfolding treadle_and_shafts after_treadle
  no_colon h other = ap treadle_and_shafts (two_first _ _ h refl refl) ∙ go (get_or ts 0 (Number 0)) (get_or ts 1 (Number 0)) other
    where
      go : (t u : Token) → (u ≡ Colon → ⊥) → treadle_and_shafts (t ∷ u ∷ drop 2 ts) ≡ unreadable
      go (Number t) (Number n) h = refl
      go (Number t) (Run a b) h = refl
      go (Number t) (Times n) h = refl
      go (Number t) Turned h = refl
      go (Number t) Open h = refl
      go (Number t) Close h = refl
      go (Number t) Colon h = absurd (h refl)
      go (Run a b) u h = refl
      go (Times n) u h = refl
      go Turned u h = refl
      go Open u h = refl
      go Close u h = refl
      go Colon u h = refl

-- lines
module _ (line text : List ℕ) (at : text ≡ past_blanks line) where
  pub line_none : length text ≡ 0 → line_says line ≡ nothing
  unfolding line_says says_text
  line_none e = ap says_text (sym at) ∙ go text e
    where
      go : (cs : List ℕ) → length cs ≡ 0 → says_text cs ≡ nothing
      go [] e = refl
      go (c ∷ cs) e = absurd (omega arith)

  pub line_comment : 0 < length text → get_or text 0 0 ≡ 35 → line_says line ≡ nothing
  unfolding line_says says_text
  line_comment h e = ap says_text (sym at) ∙ go text h e
    where
      go : (cs : List ℕ) → 0 < length cs → get_or cs 0 0 ≡ 35 → says_text cs ≡ nothing
      go [] h e = absurd (omega arith)
      go (c ∷ cs) h e = rw e refl

  pub line_word : 0 < length text → (get_or text 0 0 ≡ 35 → ⊥) → (x : Worded) → x ≡ word_in words text → line_says line ≡ says_worded x
  unfolding line_says says_text
  line_word h e x w = ap says_text (sym at) ∙ (go text h e ∙ ap says_worded (sym w))
    where
      go : (cs : List ℕ) → 0 < length cs → (get_or cs 0 0 ≡ 35 → ⊥) → says_text cs ≡ says_worded (word_in words cs)
      go [] h e = absurd (omega arith)
      go (c ∷ cs) h e = rw (ne_eqb c 35 e) refl

pub worded_uncut : (w : CallKind) (cs : List ℕ) → tokens_of cs ≡ uncut → says_worded (worded w cs) ≡ unreadable
unfolding says_worded says_cut
worded_uncut w cs e = ap (says_cut w) e

pub worded_cut : (w : CallKind) (cs : List ℕ) (ts : List Token) → tokens_of cs ≡ cut ts → says_worded (worded w cs) ≡ says w ts
unfolding says_worded says_cut
worded_cut w cs ts e = ap (says_cut w) e

pub not_worded : says_worded no_word ≡ unreadable
unfolding says_worded
not_worded = refl

pub are_same : {x y : Said} {bss : List (List ℕ)} → x ≡ y → AreCalls y bss → AreCalls x bss
are_same e p = record { these = p.these; so = e ∙ p.so; bytes = p.bytes }

-- the bytes of a call that was put together from an empty list
pub number_call : (x : Numbers) (kind n : ℕ) (a b c : List ℕ) (bss : List (List ℕ)) → a ≡ [] → b ≡ a ++ (kind ∷ []) → (p : PutNumbers x b c) → length p.these ≡ n → bss ≡ c ∷ [] → NumberCall x kind n bss
number_call x kind n a b c bss ea eb p m e =
    record { these = p.these; so = p.so; many = m; bytes = e ∙ ap (λ l. l ∷ []) (p.bytes ∙ ap (λ l. l ++ fours p.these) (eb ∙ ap (λ l. l ++ (kind ∷ [])) ea)) }

pub row_call : (x : Read) (kind : ℕ) (a b c : List ℕ) (bss : List (List ℕ)) → a ≡ [] → b ≡ a ++ (kind ∷ []) → Put x b c [] → bss ≡ c ∷ [] → RowCall x kind bss
row_call x kind a b c bss ea eb p e =
    record { row = p.read; so = p.so; bytes = e ∙ ap (λ l. l ∷ []) (p.bytes ∙ ap (λ l. l ++ row_bytes p.read) (eb ∙ ap (λ l. l ++ (kind ∷ [])) ea)) }

pub tie_bytes : (t s : ℕ) (a b c d : List ℕ) → a ≡ [] → b ≡ a ++ (2 ∷ []) → c ≡ b ++ four t → d ≡ c ++ four s → d ≡ call_bytes (ties t s)
unfolding call_bytes
tie_bytes t s a b c d ea eb ec ed = ed ∙ ap (λ l. l ++ four s) (ec ∙ ap (λ l. l ++ four t) (eb ∙ ap (λ l. l ++ (2 ∷ [])) ea))
