-- Rows that are read, and put behind bytes.
use Rattle.std.proofs.Common.{◌≡◌, ℕ, zero, suc, ◌-◌, ◌/◌, ◌<◌, List, [], ◌∷◌, ◌++◌, length, get_or, drop, Ok, Err, Result, ◌⊎◌, inl, inr, sym, refl, ap, ◌∙◌, append_assoc, arith, Bor}
use Rattle.weave.specs.Rows.{Row, one, then, times, turned, run}
use Rattle.encoding.specs.Numbers.{four}
use Rattle.encoding.specs.Rows.{row_bytes}
use Rattle.tokens.specs.declared.TextError.{TextError}
use Rattle.tokens.specs.declared.TextError.TheVariants.{Unreadable, Memory}
use Rattle.tokens.specs.declared.Token.{Token}
use Rattle.tokens.specs.declared.Token.TheVariants.{Number, Run, Times, Turned, Open, Close, Colon}
use Rattle.rowtext.specs.Rows.{count, Read, got, bad, around, second, closed, item_in, row_in, alone, row_of}
use Rattle.tokens.specs.Tokens.{cut, uncut, tokens_of}
use Rattle.tokens.specs.Results.{UnlessMemory}
use Rattle.rowtext.specs.Round.{row_of_cut, text_row}
use Rattle.rowtext.specs.Results.{Put, Told}
use Rattle.rowtext.proofs.Rows.{row_item, row_halves, inside, group_is}

pub row_none : (d n : ℕ) (ts : List Token) → d ≡ 0 → row_in d n ts ≡ bad
unfolding row_in
row_none zero n ts e = refl
row_none (suc d) n ts e = absurd (omega arith)

pub row_few : (d n : ℕ) (ts : List Token) → n ≡ 0 → row_in d n ts ≡ bad
unfolding row_in
row_few zero n ts e = refl
row_few (suc d) zero ts e = refl
row_few (suc d) (suc n) ts e = absurd (omega arith)

-- a row around one that was read
told_around : (f : Row → Row) (p : List ℕ) → ((r : Row) → row_bytes (f r) ≡ p ++ row_bytes r) →
    (r : Result (Bor (List Token)) TextError) (x : Read) (old mid new : List ℕ) → mid ≡ old ++ p → Told r x mid new → Told r (around f x) old new
unfolding around
told_around f p h (Ok rest) x old mid new m t =
    record { read = f t.read; so = ap (around f) t.so; bytes = t.bytes ∙ (ap (λ l. l ++ row_bytes t.read) m ∙ (append_assoc old p (row_bytes t.read) ∙ ap (λ l. old ++ l) (sym (h t.read)))) }
told_around f p h (Err Unreadable) x old mid new m t = ap (around f) t
told_around f p h (Err Memory) x old mid new m t = tt

told_same : (r : Result (Bor (List Token)) TextError) (x y : Read) (old new : List ℕ) → x ≡ y → Told r x old new → Told r y old new
told_same r x y old new e t = rw (← e) t

module _ (d : ℕ) (ts : List Token) (hd : 0 < d) where
  pub halves_told : (n : ℕ) → 1 < n → (r : Result (Bor (List Token)) TextError) (rest : List Token) (old mid next new : List ℕ) → mid ≡ old ++ (1 ∷ []) →
      Put (row_in (d - 1) (n - n / 2) ts) mid next rest → Told r (row_in (d - 1) (n / 2) rest) next new → Told r (row_in d n ts) old new
  unfolding second row_bytes
  halves_told n two r rest old mid next new m a t =
      told_same r (around (then a.read) (row_in (d - 1) (n / 2) rest)) (row_in d n ts) old new
      (sym (row_halves d n ts hd (omega arith) ∙ ap (second (row_in (d - 1) (n / 2))) a.so))
      (told_around (then a.read) (1 ∷ row_bytes a.read) (λ s. refl) r (row_in (d - 1) (n / 2) rest) old next new
      (a.bytes ∙ (ap (λ l. l ++ row_bytes a.read) m ∙ append_assoc old (1 ∷ []) (row_bytes a.read))) t)

  pub halves_bad : (n : ℕ) → 1 < n → (e : TextError) (old mid next new : List ℕ) → Told (Err e) (row_in (d - 1) (n - n / 2) ts) mid next → Told (Err e) (row_in d n ts) old new
  unfolding second
  halves_bad n two Unreadable old mid next new t = row_halves d n ts hd (omega arith) ∙ ap (second (row_in (d - 1) (n / 2))) t
  halves_bad n two Memory old mid next new t = tt

  first_is : 0 < length ts → (t : Token) → get_or ts 0 (Number 0) ≡ t → row_in d 1 ts ≡ item_in (row_in (d - 1)) (t ∷ drop 1 ts)
  first_is some t e = row_item d ts hd ∙ ap (item_in (row_in (d - 1))) (cons ts some e)
    where
      cons : (ts : List Token) → 0 < length ts → get_or ts 0 (Number 0) ≡ t → ts ≡ t ∷ drop 1 ts
      cons [] h e = absurd (omega arith)
      cons (x ∷ xs) h e = rw e refl

  pub empty_told : length ts ≡ 0 → row_in d 1 ts ≡ bad
  unfolding item_in
  empty_told e = row_item d ts hd ∙ none ts e
    where
      none : (ts : List Token) → length ts ≡ 0 → item_in (row_in (d - 1)) ts ≡ bad
      none [] e = refl
      none (x ∷ xs) e = absurd (omega arith)

  module _ (some : 0 < length ts) where
    pub number_told : (n : ℕ) (old new : List ℕ) → get_or ts 0 (Number 0) ≡ Number n → new ≡ old ++ (0 ∷ four n) → Put (row_in d 1 ts) old new (drop 1 ts)
    unfolding item_in row_bytes
    number_told n old new e b = record { read = one n; so = first_is some (Number n) e; bytes = b }

    pub run_told : (a b : ℕ) (old mid new : List ℕ) → get_or ts 0 (Number 0) ≡ Run a b → mid ≡ old ++ (4 ∷ four a) → new ≡ mid ++ four b → Put (row_in d 1 ts) old new (drop 1 ts)
    unfolding item_in row_bytes
    run_told a b old mid new e m h =
        record { read = run a b; so = first_is some (Run a b) e; bytes = h ∙ (ap (λ l. l ++ four b) m ∙ append_assoc old (4 ∷ four a) (four b)) }

    pub times_told : (n : ℕ) (r : Result (Bor (List Token)) TextError) (old mid new : List ℕ) → get_or ts 0 (Number 0) ≡ Times n → mid ≡ old ++ (2 ∷ four n) →
        Told r (row_in (d - 1) 1 (drop 1 ts)) mid new → Told r (row_in d 1 ts) old new
    unfolding item_in row_bytes
    times_told n r old mid new e m t =
        told_same r (around (times n) (row_in (d - 1) 1 (drop 1 ts))) (row_in d 1 ts) old new (sym (first_is some (Times n) e))
        (told_around (times n) (2 ∷ four n) (λ q. refl) r (row_in (d - 1) 1 (drop 1 ts)) old mid new m t)

    pub turned_told : (r : Result (Bor (List Token)) TextError) (old mid new : List ℕ) → get_or ts 0 (Number 0) ≡ Turned → mid ≡ old ++ (3 ∷ []) →
        Told r (row_in (d - 1) 1 (drop 1 ts)) mid new → Told r (row_in d 1 ts) old new
    unfolding item_in row_bytes
    turned_told r old mid new e m t =
        told_same r (around turned (row_in (d - 1) 1 (drop 1 ts))) (row_in d 1 ts) old new (sym (first_is some Turned e))
        (told_around turned (3 ∷ []) (λ q. refl) r (row_in (d - 1) 1 (drop 1 ts)) old mid new m t)

    pub open_is : get_or ts 0 (Number 0) ≡ Open → row_in d 1 ts ≡ closed (row_in (inside d (count 0 (drop 1 ts))) (count 0 (drop 1 ts)) (drop 1 ts))
    unfolding item_in
    open_is e = first_is some Open e ∙ ap closed (group_is d (count 0 (drop 1 ts)) (drop 1 ts) hd)

    pub other_is : (get_or ts 0 (Number 0) ≡ Close) ⊎ (get_or ts 0 (Number 0) ≡ Colon) → row_in d 1 ts ≡ bad
    unfolding item_in
    other_is (inl e) = first_is some Close e
    other_is (inr e) = first_is some Colon e

closed_put : (x : Read) (old new : List ℕ) (rest : List Token) → Put x old new rest → 0 < length rest → get_or rest 0 (Number 0) ≡ Close → Put (closed x) old new (drop 1 rest)
unfolding closed
closed_put x old new [] p h e = absurd (omega arith)
closed_put x old new (t ∷ rest) p h e = record { read = p.read; so = ap closed (p.so ∙ ap (λ u. got p.read (u ∷ rest)) e); bytes = p.bytes }

closed_not : (r : Row) (rest : List Token) → (0 < length rest → get_or rest 0 (Number 0) ≡ Close → ⊥) → closed (got r rest) ≡ bad
unfolding closed
closed_not r [] h = refl
closed_not r (Number n ∷ rest) h = refl
closed_not r (Run a b ∷ rest) h = refl
closed_not r (Times n ∷ rest) h = refl
closed_not r (Turned ∷ rest) h = refl
closed_not r (Open ∷ rest) h = refl
closed_not r (Close ∷ rest) h = absurd (h (omega arith) refl)
closed_not r (Colon ∷ rest) h = refl

module _ (d : ℕ) (ts : List Token) (hd : 0 < d) (some : 0 < length ts) (e : get_or ts 0 (Number 0) ≡ Open) where
  pub open_told : (old new : List ℕ) (rest : List Token) → Put (row_in (inside d (count 0 (drop 1 ts))) (count 0 (drop 1 ts)) (drop 1 ts)) old new rest → 0 < length rest → get_or rest 0 (Number 0) ≡ Close → Put (row_in d 1 ts) old new (drop 1 rest)
  open_told old new rest p h q = rw (open_is d ts hd some e) (closed_put (row_in (inside d (count 0 (drop 1 ts))) (count 0 (drop 1 ts)) (drop 1 ts)) old new rest p h q)

  pub open_unclosed : (old new : List ℕ) (rest : List Token) → Put (row_in (inside d (count 0 (drop 1 ts))) (count 0 (drop 1 ts)) (drop 1 ts)) old new rest → (0 < length rest → get_or rest 0 (Number 0) ≡ Close → ⊥) → row_in d 1 ts ≡ bad
  open_unclosed old new rest p h = open_is d ts hd some e ∙ (ap closed p.so ∙ closed_not p.read rest h)

  pub open_bad : (f : TextError) (old mid next new : List ℕ) → Told (Err f) (row_in (inside d (count 0 (drop 1 ts))) (count 0 (drop 1 ts)) (drop 1 ts)) mid next → Told (Err f) (row_in d 1 ts) old new
  unfolding closed
  open_bad Unreadable old mid next new t = open_is d ts hd some e ∙ ap closed t
  open_bad Memory old mid next new t = tt

pub unless_memory : (e : TextError) (P Q : Type 0) → (P → Q) → UnlessMemory e P → UnlessMemory e Q
unless_memory Unreadable P Q f h = f h
unless_memory Memory P Q f h = tt

module _ (ts : List Token) where
  pub row_bad : row_in 255 (count 0 ts) ts ≡ bad → row_of ts ≡ bad
  unfolding row_of alone
  row_bad h = ap alone h

  pub row_over : (old new : List ℕ) (rest : List Token) → Put (row_in 255 (count 0 ts) ts) old new rest → 0 < length rest → row_of ts ≡ bad
  unfolding row_of alone
  row_over old new [] p h = absurd (omega arith)
  row_over old new (t ∷ rest) p h = ap alone p.so

  pub row_whole : (old new : List ℕ) (rest : List Token) → Put (row_in 255 (count 0 ts) ts) old new rest → length rest ≡ 0 → Put (row_of ts) old new []
  unfolding row_of alone
  row_whole old new [] p h = record { read = p.read; so = ap alone p.so; bytes = p.bytes }
  row_whole old new (t ∷ rest) p h = absurd (omega arith)

module _ (text : List ℕ) where
  pub text_uncut : tokens_of text ≡ uncut → text_row text ≡ bad
  unfolding text_row row_of_cut
  text_uncut e = rw e refl

  pub text_cut : (ts : List Token) → tokens_of text ≡ cut ts → text_row text ≡ row_of ts
  unfolding text_row row_of_cut
  text_cut ts e = rw e refl

pub put_same : {x y : Read} {old from new : List ℕ} {rest : List Token} → x ≡ y → old ≡ from → Put y old new rest → Put x from new rest
put_same {new = new} e o p = record { read = p.read; so = e ∙ p.so; bytes = p.bytes ∙ ap (λ l. l ++ row_bytes p.read) o }
