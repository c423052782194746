-- The place that is told of bytes that are no call is the first that fits none.
use Rattle.std.proofs.Common.{◌≡◌, ℕ, zero, suc, ◌-◌, ◌*◌, ◌<◌, ◌≤◌, true, ltb, ◌⊎◌, List, [], ◌∷◌, ◌++◌, length, take, drop, sym, refl, ap, ◌∙◌, subst, inl, inr, append_assoc, arith, length-append}
use Rattle.std.proofs.lemmas.List.{append-nil, take_at}
use Rattle.std.proofs.lemmas.Bool.{cond_both, ltb-true, lt-ltb, false≢true}
use Rattle.weave.specs.Rows.{Row, size, deep}
use Rattle.weave.specs.Calls.{Call, threads, treadles, ties, back, cell, part, floats, fewest, hangs, garbled}
use Rattle.weave.specs.Promise.{fields_in}
use Rattle.encoding.specs.Numbers.{number_in, Bytes}
use Rattle.encoding.specs.Rows.{row_bytes, Read, got, bad, row_in, row_read}
use Rattle.encoding.specs.Calls.{call_bytes, First, begins, misfit, with_numbers, with_row, call_in, first_in, first_call, whole, any}
use Rattle.encoding.specs.Laws.{BeginsWith, Beyond, FirstMisfit}
use Rattle.encoding.proofs.Calls.{row_in_call, call_back, one_call, FirstSo, first_so}
use Rattle.encoding.proofs.Misfits.{End, Miss, Missed, row_missed, fill_one, fill_two, fill_three}

-- the bytes before and behind the place, in a call that begins with those before
abbrev Ends : List ℕ → List ℕ → Type 0
Ends us [] = (c : Call) → any c ≡ true → call_bytes c ≡ us → ⊥
Ends us (x ∷ vs) = ((c : Call) (zs : List ℕ) → any c ≡ true → call_bytes c ≡ us ++ (x ∷ zs) → ⊥) ⊎ Beyond (us ++ (x ∷ vs)) (length us)

record Misplaced (bs : List ℕ) (p : ℕ) : Type 0 where
  us : List ℕ
  vs : List ℕ
  split : bs ≡ us ++ vs
  here : p ≡ length us
  call : Call
  is_call : any call ≡ true
  before : BeginsWith call us
  ends : Ends us vs

abbrev Told : List ℕ → ℕ → Type 0
Told bs p =
    (p ≤ length bs)
    × ((c : Call) × (any c ≡ true) × BeginsWith c (take p bs))
    × (p ≡ length bs → (c : Call) → any c ≡ true → call_bytes c ≡ bs → ⊥)
    × (p < length bs → ((c : Call) → any c ≡ true → BeginsWith c (take (suc p) bs) → ⊥) ⊎ Beyond bs p)

take_next : (us : List ℕ) (x : ℕ) (vs : List ℕ) → take (suc (length us)) (us ++ (x ∷ vs)) ≡ us ++ (x ∷ [])
take_next [] x vs = refl
take_next (u ∷ us) x vs = ap (λ (v : List ℕ). u ∷ v) (take_next us x vs)

told_of : (us vs : List ℕ) (c : Call) → any c ≡ true → BeginsWith c us → Ends us vs → Told (us ++ vs) (length us)
told_of us [] c h b e = (
  let l = length-append us [] in omega arith,
  (c, h, (b.0, b.1 ∙ ap (λ (v : List ℕ). v ++ b.0) (sym (take_at us [] (length us) refl)))),
  (λ q k hk ek. e k hk (ek ∙ append-nil us)),
  (λ l. absurd (let k = length-append us [] in omega arith)),
)
told_of us (x ∷ vs) c h b e = (
  let l = length-append us (x ∷ vs) in omega arith,
  (c, h, (b.0, b.1 ∙ ap (λ (v : List ℕ). v ++ b.0) (sym (take_at us (x ∷ vs) (length us) refl)))),
  (λ q. absurd (let k = length-append us (x ∷ vs) in omega arith)),
  (λ l. next e),
)
  where
    next : Ends us (x ∷ vs) → ((k : Call) → any k ≡ true → BeginsWith k (take (suc (length us)) (us ++ (x ∷ vs))) → ⊥) ⊎ Beyond (us ++ (x ∷ vs)) (length us)
    next (inl f) = inl (λ k hk bk. f k bk.0 hk (bk.1 ∙ (ap (λ (v : List ℕ). v ++ bk.0) (take_next us x vs) ∙ append_assoc us (x ∷ []) bk.0)))
    next (inr y) = inr y

told_from : (bs : List ℕ) (p : ℕ) → Misplaced bs p → Told bs p
told_from bs p w =
    subst (λ (k : ℕ). Told bs k) (sym w.here) (subst (λ (v : List ℕ). Told v (length w.us)) (sym w.split) (told_of w.us w.vs w.call w.is_call w.before w.ends))

-- bytes that no call is read from, however large and deep, are those of no call
unread : (c : Call) (bs : List ℕ) (p : ℕ) → any c ≡ true → call_bytes c ≡ bs → ((f : List ℕ → Read) → first_in f bs ≡ misfit p) → ⊥
unread c bs p h e w =
    let d : ℕ = deep (row_in_call c) in
    let n : ℕ = size (row_in_call c) in
    let q : begins c [] ≡ misfit p = sym (call_back c d n [] h (omega arith) (omega arith)) ∙ (ap (first_in (row_in d n)) (append-nil (call_bytes c) ∙ e) ∙ w (row_in d n)) in
    let z : ◌≡◌ {A = ℕ} 0 1 = cc in
    omega arith

misplaced_none : Misplaced [] 0
unfolding any call_bytes first_in
misplaced_none = record { us = []; vs = []; split = refl; here = refl; call = back; is_call = refl; before = (3 ∷ [], refl); ends = λ c h e. unread c [] 0 h e (λ f. refl) }

misplaced_kind : (k : ℕ) (bs : List ℕ) → ((f : List ℕ → Read) (zs : List ℕ) → call_in f k zs ≡ misfit 0) → Misplaced (k ∷ bs) 0
unfolding any call_bytes first_in
misplaced_kind k bs w =
    record { us = []; vs = k ∷ bs; split = refl; here = refl; call = back; is_call = refl; before = (3 ∷ [], refl); ends = inl (λ c zs h e. unread c (k ∷ zs) 0 h e (λ f. w f zs)) }

-- a call of n numbers with too few bytes
misplaced_numbers : (k : ℕ) (bs : List ℕ) (c : Call) (zs : List ℕ) → any c ≡ true → call_bytes c ≡ (k ∷ bs) ++ zs → ((f : List ℕ → Read) → call_in f k bs ≡ misfit (suc (length bs))) → Misplaced (k ∷ bs) (suc (length bs))
unfolding first_in
misplaced_numbers k bs c zs h e w =
    record { us = k ∷ bs; vs = []; split = sym (append-nil (k ∷ bs)); here = refl; call = c; is_call = h; before = (zs, e); ends = λ g hg eg. unread g (k ∷ bs) (suc (length bs)) hg eg w }

-- a call whose row does not fit
row_of_call : (k : ℕ) (c : Call) (bs : List ℕ) → k < 2 → any c ≡ true → call_bytes c ≡ k ∷ bs → (r : Row) × (fields_in r ≡ true) × (row_bytes r ≡ bs)
unfolding any call_bytes
row_of_call k (threads r) bs l h e = (r, h, cc)
row_of_call k (treadles r) bs l h e = (r, h, cc)
row_of_call k (ties t s) bs l h e = let z : 2 ≡ k = cc in absurd (omega arith)
row_of_call k back bs l h e = let z : 3 ≡ k = cc in absurd (omega arith)
row_of_call k (cell r c) bs l h e = let z : 4 ≡ k = cc in absurd (omega arith)
row_of_call k (part r c n) bs l h e = let z : 5 ≡ k = cc in absurd (omega arith)
row_of_call k (floats n) bs l h e = let z : 6 ≡ k = cc in absurd (omega arith)
row_of_call k fewest bs l h e = let z : 7 ≡ k = cc in absurd (omega arith)
row_of_call k hangs bs l h e = let z : 8 ≡ k = cc in absurd (omega arith)
row_of_call k (garbled n) bs l h e = absurd (false≢true h)

module _ (k : ℕ) (F : Row → Call) (hk : k < 2) (eb : (r : Row) → call_bytes (F r) ≡ k ∷ row_bytes r) (ea : (r : Row) → any (F r) ≡ fields_in r)
    (has : (r : Row) → (F r ≡ threads r) ⊎ (F r ≡ treadles r)) where
  ends_row : (us : List ℕ) (r : Row) (zs vs : List ℕ) → fields_in r ≡ true → row_bytes r ≡ us ++ zs → End 255 1024 us r vs → Ends (k ∷ us) vs
  ends_row us r zs [] f s h = λ c hc e. let p = row_of_call k c us hk hc e in h p.0 [] p.1 (append-nil (row_bytes p.0) ∙ p.2)
  ends_row us r zs (x ∷ vs) f s (inl h) = inl (λ c ys hc e. let p = row_of_call k c (us ++ (x ∷ ys)) hk hc e in h p.0 [] ys p.1 (append-nil (row_bytes p.0) ∙ p.2))
  ends_row us r zs (x ∷ vs) f s (inr h) =
      inr (record {
        call = F r;
        is_call = ea r ∙ f;
        before = (zs, eb r ∙ (ap (λ (v : List ℕ). k ∷ v) s ∙ ap (λ (v : List ℕ). v ++ zs) (sym (take_at (k ∷ us) (x ∷ vs) (length (k ∷ us)) refl))));
        row = r;
        has_row = has r;
        part_number = h.0;
        part_deep = h.1;
        part_place = length us;
        stands = h.2;
        here = refl;
        too_much = h.3;
      })

  misplaced_row : (bs : List ℕ) (left : ℕ) → Miss 255 1024 bs left → Misplaced (k ∷ bs) (suc (length bs - left))
  misplaced_row bs left w =
      let l = ap length w.split ∙ length-append w.us w.vs in
      record {
        us = k ∷ w.us;
        vs = w.vs;
        split = ap (λ (v : List ℕ). k ∷ v) w.split;
        here = ap suc (omega (arith, w.long));
        call = F w.row;
        is_call = ea w.row ∙ w.fields;
        before = (w.zs, eb w.row ∙ ap (λ (v : List ℕ). k ∷ v) w.starts);
        ends = ends_row w.us w.row w.zs w.vs w.fields w.starts w.end;
      }

-- what is so of bytes where no call was read
abbrev Misread : List ℕ → First → Type 0
Misread bs (begins c rest) = Unit {0}
Misread bs (misfit p) = Misplaced bs p

threads_misread : (bs : List ℕ) (x : Read) → Missed 255 1024 bs x → Misread (0 ∷ bs) (with_row threads (length bs) x)
unfolding with_row call_bytes any
threads_misread bs (got r m cs) w = tt
threads_misread bs (bad left) w = misplaced_row 0 threads (omega arith) (λ r. refl) (λ r. refl) (λ r. inl refl) bs left w

treadles_misread : (bs : List ℕ) (x : Read) → Missed 255 1024 bs x → Misread (1 ∷ bs) (with_row treadles (length bs) x)
unfolding with_row call_bytes any
treadles_misread bs (got r m cs) w = tt
treadles_misread bs (bad left) w = misplaced_row 1 treadles (omega arith) (λ r. refl) (λ r. refl) (λ r. inr refl) bs left w

numbers_misread : (k n : ℕ) (bs : List ℕ) (c : Call) → (length bs < 4 * n → Misplaced (k ∷ bs) (suc (length bs))) → Misread (k ∷ bs) (with_numbers n bs c)
numbers_misread k n bs c w = cond_both (ltb (length bs) (4 * n)) (misfit (suc (length bs))) (begins c (drop (4 * n) bs)) (Misread (k ∷ bs)) (λ e. w (ltb-true (length bs) (4 * n) e)) (λ e. tt)

call_misread : (k : ℕ) (bs : List ℕ) → Bytes bs → Misread (k ∷ bs) (call_in row_read k bs)
unfolding call_in row_read call_bytes any
call_misread zero bs h = threads_misread bs (row_read bs) (row_missed 255 1024 bs h)
call_misread (suc zero) bs h = treadles_misread bs (row_read bs) (row_missed 255 1024 bs h)
call_misread (suc (suc zero)) bs h =
    numbers_misread 2 2 bs (ties (number_in bs) (number_in (drop 4 bs)))
    (λ l. let p = fill_two bs h (omega arith) in misplaced_numbers 2 bs (ties p.0 p.1) p.3 p.2 (ap (λ (v : List ℕ). 2 ∷ v) p.4) (λ f. rw (lt-ltb (length bs) 8 l)))
call_misread (suc (suc (suc zero))) bs h = numbers_misread 3 0 bs back (λ l. absurd (omega arith))
call_misread (suc (suc (suc (suc zero)))) bs h =
    numbers_misread 4 2 bs (cell (number_in bs) (number_in (drop 4 bs)))
    (λ l. let p = fill_two bs h (omega arith) in misplaced_numbers 4 bs (cell p.0 p.1) p.3 p.2 (ap (λ (v : List ℕ). 4 ∷ v) p.4) (λ f. rw (lt-ltb (length bs) 8 l)))
call_misread (suc (suc (suc (suc (suc zero))))) bs h =
    numbers_misread 5 3 bs (part (number_in bs) (number_in (drop 4 bs)) (number_in (drop 8 bs)))
    (λ l. let p = fill_three bs h (omega arith) in misplaced_numbers 5 bs (part p.0 p.1 p.2) p.4 p.3 (ap (λ (v : List ℕ). 5 ∷ v) p.5) (λ f. rw (lt-ltb (length bs) 12 l)))
call_misread (suc (suc (suc (suc (suc (suc zero)))))) bs h =
    numbers_misread 6 1 bs (floats (number_in bs))
    (λ l. let p = fill_one bs h (omega arith) in misplaced_numbers 6 bs (floats p.0) p.2 p.1 (ap (λ (v : List ℕ). 6 ∷ v) p.3) (λ f. rw (lt-ltb (length bs) 4 l)))
call_misread (suc (suc (suc (suc (suc (suc (suc zero))))))) bs h = numbers_misread 7 0 bs fewest (λ l. absurd (omega arith))
call_misread (suc (suc (suc (suc (suc (suc (suc (suc zero)))))))) bs h = numbers_misread 8 0 bs hangs (λ l. absurd (omega arith))
call_misread (suc (suc (suc (suc (suc (suc (suc (suc (suc k))))))))) bs h = misplaced_kind (suc (suc (suc (suc (suc (suc (suc (suc (suc k))))))))) bs (λ f zs. refl)

first_misread : (bs : List ℕ) → Bytes bs → Misread bs (first_call bs)
unfolding first_in
first_misread [] h = misplaced_none
first_misread (k ∷ bs) h = call_misread k bs (λ i. h (suc i))

-- bytes left over after a call
misplaced_rest : (bs : List ℕ) (c : Call) (b : ℕ) (rest : List ℕ) → FirstSo bs (begins c (b ∷ rest)) → Misplaced bs (length bs - length (b ∷ rest))
misplaced_rest bs c b rest w =
    let l = ap length w.0 ∙ length-append (call_bytes c) (b ∷ rest) in
    record {
      us = call_bytes c;
      vs = b ∷ rest;
      split = w.0;
      here = omega arith;
      call = c;
      is_call = w.2;
      before = ([], sym (append-nil (call_bytes c)));
      ends = inl (λ e zs h q. let z : begins e [] ≡ begins c (b ∷ zs) = one_call e c [] (b ∷ zs) h w.2 (append-nil (call_bytes e) ∙ q) in
          let y : [] ≡ b ∷ zs = cc in let n = ap length y in omega arith);
    }

no_garbled : (c : Call) (p : ℕ) → any c ≡ true → c ≡ garbled p → ⊥
unfolding any
no_garbled c p h e = false≢true (sym (ap any e) ∙ h)

whole_misread : (bs : List ℕ) (p : ℕ) (x : First) → FirstSo bs x → Misread bs x → whole (length bs) x ≡ garbled p → Misplaced bs p
unfolding whole
whole_misread bs p (begins c []) s w e = absurd (no_garbled c p s.2 e)
whole_misread bs p (begins c (b ∷ rest)) s w e = let q : length bs - length (b ∷ rest) ≡ p = cc in subst (Misplaced bs) q (misplaced_rest bs c b rest s)
whole_misread bs p (misfit k) s w e = let q : k ≡ p = cc in subst (Misplaced bs) q w

pub first_misfit : FirstMisfit
first_misfit bs p h e = told_from bs p (whole_misread bs p (first_call bs) (first_so bs h) (first_misread bs h) e)
