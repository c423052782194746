-- Calls as bytes: a call that is written is read, and bytes that are read are those of the call.
use Rattle.std.proofs.Common.{◌≡◌, ℕ, zero, suc, ◌+◌, ◌*◌, ◌≤◌, true, ◌&&◌, ltb, List, [], ◌∷◌, ◌++◌, length, drop, sym, refl, ap, ◌∙◌, subst, arith, length-append, length-drop, drop-drop}
use Rattle.std.proofs.lemmas.Bool.{cond_both, ltb-false, le-ltb, and_parts, and_from, false≢true}
use Rattle.weave.specs.Rows.{Row, one, then, times, turned, run, size, deep}
use Rattle.weave.specs.Calls.{Call, threads, treadles, ties, back, cell, part, floats, fewest, hangs, garbled}
use Rattle.weave.specs.Promise.{field, readable}
use Rattle.encoding.specs.Numbers.{four, number_in, Bytes}
use Rattle.encoding.specs.Rows.{row_bytes, Read, got, bad, row_in, row_read}
use Rattle.encoding.specs.Calls.{call_bytes, First, begins, misfit, with_numbers, with_row, call_in, first_in, first_call, any}
use Rattle.encoding.proofs.Numbers.{four_back, four_split, bytes_drop}
use Rattle.encoding.proofs.Rows.{row_back, carried_parts, ReadSo, read_so}

-- the row of a call
abbrev pub row_in_call : Call → Row
row_in_call (threads r) = r
row_in_call (treadles r) = r
row_in_call (ties t s) = one 0
row_in_call back = one 0
row_in_call (cell r c) = one 0
row_in_call (part r c n) = one 0
row_in_call (floats k) = one 0
row_in_call fewest = one 0
row_in_call hangs = one 0
row_in_call (garbled n) = one 0

-- a call that is written is read, up to its end, by a reader of rows that are as deep and as large
pub call_back : (c : Call) (d n : ℕ) (rest : List ℕ) → any c ≡ true → deep (row_in_call c) ≤ d → size (row_in_call c) ≤ n → first_in (row_in d n) (call_bytes c ++ rest) ≡ begins c rest
unfolding any call_bytes first_in call_in with_row
call_back (threads r) d n rest h hd hn = rw (row_back r d n rest h hd hn) refl
call_back (treadles r) d n rest h hd hn = rw (row_back r d n rest h hd hn) refl
call_back (ties t s) d n rest h hd hn =
    let f = and_parts (field t) (field s) h in
    rw (le-ltb (length (four t ++ (four s ++ rest))) 8 (omega arith), four_back t (four s ++ rest) f.0, four_back s rest f.1) refl
call_back back d n rest h hd hn = rw (le-ltb (length rest) 0 (omega arith)) refl
call_back (cell t s) d n rest h hd hn =
    let f = and_parts (field t) (field s) h in
    rw (le-ltb (length (four t ++ (four s ++ rest))) 8 (omega arith), four_back t (four s ++ rest) f.0, four_back s rest f.1) refl
call_back (part r c k) d n rest h hd hn =
    let f = and_parts (field r) (field c && field k) h in
    let g = and_parts (field c) (field k) f.1 in
    rw (le-ltb (length (four r ++ (four c ++ (four k ++ rest)))) 12 (omega arith), four_back r (four c ++ (four k ++ rest)) f.0, four_back c (four k ++ rest) g.0, four_back k rest g.1) refl
call_back (floats k) d n rest h hd hn = rw (le-ltb (length (four k ++ rest)) 4 (omega arith), four_back k rest h) refl
call_back fewest d n rest h hd hn = rw (le-ltb (length rest) 0 (omega arith)) refl
call_back hangs d n rest h hd hn = rw (le-ltb (length rest) 0 (omega arith)) refl
call_back (garbled k) d n rest h hd hn = absurd (false≢true h)

-- bytes begin with one call at most
pub one_call : (c e : Call) (us vs : List ℕ) → any c ≡ true → any e ≡ true → call_bytes c ++ us ≡ call_bytes e ++ vs → begins c us ≡ begins e vs
one_call c e us vs hc he q =
    let d : ℕ = deep (row_in_call c) + deep (row_in_call e) in
    let n : ℕ = size (row_in_call c) + size (row_in_call e) in
    sym (call_back c d n us hc (omega arith) (omega arith)) ∙ (ap (first_in (row_in d n)) q ∙ call_back e d n vs he (omega arith) (omega arith))

-- what is so of a call that was read from bytes
abbrev pub FirstSo : List ℕ → First → Type 0
FirstSo bs (begins c rest) = (bs ≡ call_bytes c ++ rest) × (readable c ≡ true) × (any c ≡ true)
FirstSo bs (misfit p) = Unit {0}

threads_so : (bs : List ℕ) (x : Read) → ReadSo bs x → FirstSo (0 ∷ bs) (with_row threads (length bs) x)
unfolding call_bytes with_row readable any
threads_so bs (got r m cs) w = (ap (λ (v : List ℕ). 0 ∷ v) w.0, w.1, (carried_parts r w.1).0)
threads_so bs (bad p) w = tt

treadles_so : (bs : List ℕ) (x : Read) → ReadSo bs x → FirstSo (1 ∷ bs) (with_row treadles (length bs) x)
unfolding call_bytes with_row readable any
treadles_so bs (got r m cs) w = (ap (λ (v : List ℕ). 1 ∷ v) w.0, w.1, (carried_parts r w.1).0)
treadles_so bs (bad p) w = tt

-- the numbers at the front of bytes
module _ (bs : List ℕ) (h : Bytes bs) where
  pub two_split : 8 ≤ length bs → (field (number_in bs) && field (number_in (drop 4 bs)) ≡ true) × (bs ≡ four (number_in bs) ++ (four (number_in (drop 4 bs)) ++ drop 8 bs))
  two_split l =
      let p = four_split bs h (omega arith) in
      let q = four_split (drop 4 bs) (bytes_drop 4 bs h) (simp length-drop (omega arith)) in
      let e : drop 4 (drop 4 bs) ≡ drop 8 bs = drop-drop 4 4 bs in (
        and_from (field (number_in bs)) (field (number_in (drop 4 bs))) p.0 q.0,
        p.1 ∙ ap (λ (v : List ℕ). four (number_in bs) ++ v) (q.1 ∙ ap (λ (v : List ℕ). four (number_in (drop 4 bs)) ++ v) e),
      )

pub three_split : (bs : List ℕ) → Bytes bs → 12 ≤ length bs → (field (number_in bs) && (field (number_in (drop 4 bs)) && field (number_in (drop 8 bs))) ≡ true) × (bs ≡ four (number_in bs) ++ (four (number_in (drop 4 bs)) ++ (four (number_in (drop 8 bs)) ++ drop 12 bs)))
three_split bs h l =
    let p = four_split bs h (omega arith) in
    let q = two_split (drop 4 bs) (bytes_drop 4 bs h) (simp length-drop (omega arith)) in
    let e : drop 4 (drop 4 bs) ≡ drop 8 bs = drop-drop 4 4 bs in
    let f : drop 8 (drop 4 bs) ≡ drop 12 bs = drop-drop 8 4 bs in (
      and_from (field (number_in bs)) (field (number_in (drop 4 bs)) && field (number_in (drop 8 bs))) p.0 (rw e at q.0),
      p.1 ∙ ap (λ (v : List ℕ). four (number_in bs) ++ v) (rw (e, f) at q.1),
    )

-- a call of numbers: what is so where there are enough bytes
numbers_so : (k n : ℕ) (bs : List ℕ) (c : Call) → (4 * n ≤ length bs → FirstSo (k ∷ bs) (begins c (drop (4 * n) bs))) → FirstSo (k ∷ bs) (with_numbers n bs c)
numbers_so k n bs c w =
    cond_both (ltb (length bs) (4 * n)) (misfit (suc (length bs))) (begins c (drop (4 * n) bs)) (FirstSo (k ∷ bs)) (λ e. tt) (λ e. w (ltb-false (length bs) (4 * n) e))

call_so : (k : ℕ) (bs : List ℕ) → Bytes bs → FirstSo (k ∷ bs) (call_in row_read k bs)
unfolding call_in call_bytes readable any
call_so zero bs h = threads_so bs (row_read bs) (read_so bs h)
call_so (suc zero) bs h = treadles_so bs (row_read bs) (read_so bs h)
call_so (suc (suc zero)) bs h =
    numbers_so 2 2 bs (ties (number_in bs) (number_in (drop 4 bs))) (λ l. let p = two_split bs h l in (ap (λ (v : List ℕ). 2 ∷ v) p.1, p.0, p.0))
call_so (suc (suc (suc zero))) bs h = numbers_so 3 0 bs back (λ l. (refl, refl, refl))
call_so (suc (suc (suc (suc zero)))) bs h =
    numbers_so 4 2 bs (cell (number_in bs) (number_in (drop 4 bs))) (λ l. let p = two_split bs h l in (ap (λ (v : List ℕ). 4 ∷ v) p.1, p.0, p.0))
call_so (suc (suc (suc (suc (suc zero))))) bs h =
    numbers_so 5 3 bs (part (number_in bs) (number_in (drop 4 bs)) (number_in (drop 8 bs))) (λ l. let p = three_split bs h l in (ap (λ (v : List ℕ). 5 ∷ v) p.1, p.0, p.0))
call_so (suc (suc (suc (suc (suc (suc zero)))))) bs h =
    numbers_so 6 1 bs (floats (number_in bs)) (λ l. let p = four_split bs h l in (ap (λ (v : List ℕ). 6 ∷ v) p.1, p.0, p.0))
call_so (suc (suc (suc (suc (suc (suc (suc zero))))))) bs h = numbers_so 7 0 bs fewest (λ l. (refl, refl, refl))
call_so (suc (suc (suc (suc (suc (suc (suc (suc zero)))))))) bs h = numbers_so 8 0 bs hangs (λ l. (refl, refl, refl))
call_so (suc (suc (suc (suc (suc (suc (suc (suc (suc k))))))))) bs h = tt

pub first_so : (bs : List ℕ) → Bytes bs → FirstSo bs (first_call bs)
unfolding first_in
first_so [] h = tt
first_so (k ∷ bs) h = call_so k bs (λ i. h (suc i))

-- a call has at most nine bytes for each part of its row, and one
length_row : (r : Row) → length (row_bytes r) ≤ 9 * size r
unfolding row_bytes size
length_row (one n) = omega arith
length_row (then r s) = let a = length_row r in let b = length_row s in let e = length-append (row_bytes r) (row_bytes s) in omega arith
length_row (times n r) = let a = length_row r in omega arith
length_row (turned r) = let a = length_row r in omega arith
length_row (run a b) = omega arith

length_call : (c : Call) → readable c ≡ true → length (call_bytes c) ≤ 9217
unfolding readable call_bytes
length_call (threads r) h = let p = carried_parts r h in let l = length_row r in omega arith
length_call (treadles r) h = let p = carried_parts r h in let l = length_row r in omega arith
length_call (ties t s) h = omega arith
length_call back h = omega arith
length_call (cell r c) h = omega arith
length_call (part r c n) h = omega arith
length_call (floats k) h = omega arith
length_call fewest h = omega arith
length_call hangs h = omega arith
length_call (garbled n) h = omega arith

pub first_far : (bs : List ℕ) (c : Call) (rest : List ℕ) → FirstSo bs (begins c rest) → (length rest ≤ length bs) × (length bs ≤ length rest + 9217)
first_far bs c rest w =
    let e = ap length w.0 ∙ length-append (call_bytes c) rest in
    let l = length_call c w.1 in
    (omega arith, omega arith)

pub first_is : (bs : List ℕ) (c : Call) (rest : List ℕ) → Bytes bs → first_call bs ≡ begins c rest → FirstSo bs (begins c rest)
first_is bs c rest h e = subst (FirstSo bs) e (first_so bs h)
