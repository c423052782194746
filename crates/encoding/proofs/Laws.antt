-- Calls and answers that are written are read back, and what is read was written.
use Rattle.std.proofs.Common.{◌≡◌, ℕ, zero, suc, ◌+◌, ◌-◌, ◌*◌, ◌/◌, ◌%◌, ◌^◌, ◌<◌, ◌≤◌, Bool, true, cond, ◌&&◌, ◌||◌, eqb, ltb, leb, List, [], ◌∷◌, ◌++◌, length, get_or, take, drop, sym, refl, ap, ◌∙◌, subst, inl, inr, mod-eq_of_lt, arith, length-append, length-drop, take-append-drop, drop-drop}
use Rattle.std.proofs.lemmas.List.{append-nil, drop_at, ext_get_or, get_or-take, length-take-le}
use Rattle.std.proofs.lemmas.Bool.{cases_lt, cond_both, ltb-true, ltb-false, leb-true, lt-ltb, le-ltb, eqb-true, and_parts, and_from, or_cases}
use Rattle.weave.specs.Rows.{size, deep}
use Rattle.weave.specs.Calls.{Call, threads, treadles, ties, back, cell, part, floats, fewest, hangs, garbled, refused, number, two, cells, together, over_all}
use Rattle.weave.specs.Promise.{field, readable}
use Rattle.encoding.specs.Numbers.{four, eight, number_in, wide_in, Bytes}
use Rattle.encoding.specs.Rows.{row_read}
use Rattle.encoding.specs.Calls.{call_bytes, begins, first_call, any}
use Rattle.encoding.specs.Answers.{bits, value, bytes_for, octet, packed, bits_in, answer_bytes, known, FirstAnswer, answers, no_answer, clean, cells_read, answer_in, first_answer}
use Rattle.encoding.specs.Laws.{CallsComeBack, carries, filled, AnswersComeBack, ReadAsWritten}
use Rattle.encoding.proofs.Numbers.{four_back, eight_back, four_split, eight_split, bytes_drop}
use Rattle.encoding.proofs.Rows.{carried_parts}
use Rattle.encoding.proofs.Calls.{row_in_call, call_back, two_split, first_is}
use Rattle.encoding.proofs.Calling.{reads_all}
use Rattle.encoding.proofs.Bits.{value_below, pow_up, length_bits, length_bits_in, bits_filled, octet_all, octet_some, length_packed, get_or_packed, packed_back, packed_clean}
use Rattle.encoding.proofs.Answers.{clean_from, cells_all, over_bytes}

-- the row of a call that can be read is within the limits
within : (c : Call) → readable c ≡ true → (size (row_in_call c) ≤ 1024) × (deep (row_in_call c) ≤ 255)
unfolding readable size deep
within (threads r) h = ((carried_parts r h).1, (carried_parts r h).2)
within (treadles r) h = ((carried_parts r h).1, (carried_parts r h).2)
within (ties t s) h = (omega arith, omega arith)
within back h = (omega arith, omega arith)
within (cell r c) h = (omega arith, omega arith)
within (part r c n) h = (omega arith, omega arith)
within (floats k) h = (omega arith, omega arith)
within fewest h = (omega arith, omega arith)
within hangs h = (omega arith, omega arith)
within (garbled n) h = (omega arith, omega arith)

first_back : (c : Call) (rest : List ℕ) → any c ≡ true → readable c ≡ true → first_call (call_bytes c ++ rest) ≡ begins c rest
unfolding row_read
first_back c rest h w = let l = within c w in call_back c 255 1024 rest h l.1 l.0

pub calls_come_back : CallsComeBack
calls_come_back c h w =
    (λ rest. first_back c rest h w, reads_all (call_bytes c) c [] (rw append-nil at (first_back c [] h w)) refl)

-- a refusal's number that is known has four bytes
known_below : (j k : ℕ) → known j k ≡ true → field j ≡ true
known_below j k h = lt-ltb j 4294967296 (elim (or_cases (eqb j 1) ((eqb k 0 && (eqb j 2 || (eqb j 3 || eqb j 6))) || (eqb j 3 && eqb k 1)) h) [
  | inl e ↦ (let q = eqb-true j 1 e in omega arith)
  | inr e ↦ elim (or_cases (eqb k 0 && (eqb j 2 || (eqb j 3 || eqb j 6))) (eqb j 3 && eqb k 1) e) [
    | inl f ↦ elim (or_cases (eqb j 2) (eqb j 3 || eqb j 6) (and_parts (eqb k 0) (eqb j 2 || (eqb j 3 || eqb j 6)) f).1) [
      | inl g ↦ (let q = eqb-true j 2 g in omega arith)
      | inr g ↦ elim (or_cases (eqb j 3) (eqb j 6) g) [ inl i ↦ (let q = eqb-true j 3 i in omega arith) | inr i ↦ (let q = eqb-true j 6 i in omega arith) ]
    ]
    | inr f ↦ (let q = eqb-true j 3 (and_parts (eqb j 3) (eqb k 1) f).0 in omega arith)
  ]
])

cells_back : (ys : List Bool) (rest : List ℕ) → length ys ≤ 1024 → cells_read (length ys) (packed ys ++ rest) ≡ answers (cells ys) rest
cells_back ys rest h =
    let l = length_packed ys in
    let k = length-append (packed ys) rest in
    cells_all (length ys) (packed ys ++ rest) h (omega arith)
    (clean_from (length ys) (packed ys ++ rest) (elim (cases_lt 0 (length ys % 8)) [ inl p ↦ inr (packed_clean ys rest p) | inr p ↦ inl (omega arith) ]))
    ∙ (ap (λ (v : List Bool). answers (cells v) (drop (bytes_for (length ys)) (packed ys ++ rest))) (packed_back ys rest)
    ∙ ap (answers (cells ys)) (drop_at (packed ys) rest (bytes_for (length ys)) l))

set_below : (ss : List Bool) → length ss ≤ 64 → value ss < 18446744073709551616
set_below ss h = let v = value_below ss in let p = pow_up (length ss) 64 h in omega arith

pub answers_come_back : AnswersComeBack
unfolding carries filled answer_bytes first_answer answer_in
answers_come_back (refused j k) rest h =
    let p = and_parts (known j k) (field k) h in
    rw (le-ltb (length (four j ++ (four k ++ rest))) 8 (omega arith), four_back j (four k ++ rest) (known_below j k p.0), four_back k rest p.1, p.0) refl
answers_come_back (number n) rest h = rw (le-ltb (length (four n ++ rest)) 4 (omega arith), four_back n rest h) refl
answers_come_back (two m n) rest h =
    let p = and_parts (field m) (field n) h in
    rw (le-ltb (length (four m ++ (four n ++ rest))) 8 (omega arith), four_back m (four n ++ rest) p.0, four_back n rest p.1) refl
answers_come_back (cells bs) rest h =
    let l = leb-true (length bs) 1024 h in
    rw (le-ltb (length (four (length bs) ++ (packed bs ++ rest))) 4 (omega arith), four_back (length bs) (packed bs ++ rest) (lt-ltb (length bs) 4294967296 (omega arith))) (cells_back bs rest l)
answers_come_back together rest h = refl
answers_come_back (over_all ss ts) rest h =
    let p = and_parts (leb (length ss) 64) (leb (length ts) 64) h in
    let ls = leb-true (length ss) 64 p.0 in
    let lt = leb-true (length ts) 64 p.1 in
    rw (
      le-ltb (length (eight (value ss) ++ (eight (value ts) ++ rest))) 16 (omega arith),
      eight_back (value ss) (eight (value ts) ++ rest) (set_below ss ls),
      eight_back (value ts) rest (set_below ts lt),
      bits_filled 64 ss ls,
      bits_filled 64 ts lt,
    ) refl

-- the bytes of cells that are read
module _ (bs : List ℕ) (h : Bytes bs) (n : ℕ) (k : clean n bs ≡ true) where
  octet_read : (i : ℕ) → i < bytes_for n → octet (bits_in bs n) i ≡ get_or bs i 0
  octet_read i l = elim (cases_lt n (8 * i + 8)) [
    | inl g ↦ (octet_some bs n i (omega arith) ∙ mod-eq_of_lt (last g))
    | inr g ↦ (octet_all bs n i g ∙ mod-eq_of_lt (h i))
  ]
    where
      last : n < 8 * i + 8 → get_or bs i 0 < 2 ^ (n - 8 * i)
      last g =
          let q : n / 8 ≡ i = omega arith in
          let r : n % 8 ≡ n - 8 * i = omega arith in
          elim (or_cases (eqb (n % 8) 0) (ltb (get_or bs (n / 8) 0) (2 ^ (n % 8))) k) [
            | inl e ↦ absurd (let z = eqb-true (n % 8) 0 e in omega arith)
            | inr e ↦ (rw (q, r) at (ltb-true (get_or bs (n / 8) 0) (2 ^ (n % 8)) e))
          ]

  packed_read : bytes_for n ≤ length bs → packed (bits_in bs n) ≡ take (bytes_for n) bs
  packed_read g =
      let ln = length_bits_in bs n in
      let lp : length (packed (bits_in bs n)) ≡ bytes_for n = length_packed (bits_in bs n) ∙ ap bytes_for ln in
      ext_get_or 0 (packed (bits_in bs n)) (take (bytes_for n) bs) (lp ∙ sym (length-take-le (bytes_for n) bs g))
      (λ i l. let li : i < bytes_for n = omega arith in
      get_or_packed (bits_in bs n) i (rw ln li) ∙ (octet_read i li ∙ sym (get_or-take (bytes_for n) bs i 0 li)))

-- what is so of an answer that was read from bytes
abbrev AnswerSo : List ℕ → FirstAnswer → Type 0
AnswerSo bs (answers a rest) = (bs ≡ answer_bytes a ++ rest) × (carries a ≡ true)
AnswerSo bs no_answer = Unit {0}

cells_so : (n : ℕ) (bs : List ℕ) → Bytes bs → field n ≡ true → AnswerSo (3 ∷ (four n ++ bs)) (cells_read n bs)
unfolding cells_read answer_bytes carries
cells_so n bs h f =
    cond_both (leb n 1024 && (leb (bytes_for n) (length bs) && clean n bs)) (answers (cells (bits_in bs n)) (drop (bytes_for n) bs)) no_answer (AnswerSo (3 ∷ (four n ++ bs)))
    (λ e. let p = and_parts (leb n 1024) (leb (bytes_for n) (length bs) && clean n bs) e in
    let q = and_parts (leb (bytes_for n) (length bs)) (clean n bs) p.1 in
    let ln = length_bits_in bs n in
    let w : bs ≡ packed (bits_in bs n) ++ drop (bytes_for n) bs =
    sym (take-append-drop (bytes_for n) bs) ∙ ap (λ (v : List ℕ). v ++ drop (bytes_for n) bs) (sym (packed_read bs h n q.1 (leb-true (bytes_for n) (length bs) q.0))) in (
      ap (λ (v : List ℕ). 3 ∷ (four n ++ v)) w ∙ ap (λ (m : ℕ). 3 ∷ (four m ++ (packed (bits_in bs n) ++ drop (bytes_for n) bs))) (sym ln),
      ap (λ (m : ℕ). leb m 1024) ln ∙ p.0,
    ))
    (λ e. tt)

answer_so : (k : ℕ) (bs : List ℕ) → Bytes bs → AnswerSo (k ∷ bs) (answer_in k bs)
unfolding answer_in answer_bytes carries
answer_so zero bs h =
    cond_both (ltb (length bs) 8) no_answer (cond (known (number_in bs) (number_in (drop 4 bs))) (answers (refused (number_in bs) (number_in (drop 4 bs))) (drop 8 bs)) no_answer) (AnswerSo (0 ∷ bs)) (λ e. tt)
    (λ e. let p = two_split bs h (ltb-false (length bs) 8 e) in
    let f = and_parts (field (number_in bs)) (field (number_in (drop 4 bs))) p.0 in
    cond_both (known (number_in bs) (number_in (drop 4 bs))) (answers (refused (number_in bs) (number_in (drop 4 bs))) (drop 8 bs)) no_answer (AnswerSo (0 ∷ bs))
    (λ g. (ap (λ (v : List ℕ). 0 ∷ v) p.1, and_from (known (number_in bs) (number_in (drop 4 bs))) (field (number_in (drop 4 bs))) g f.1)) (λ g. tt))
answer_so (suc zero) bs h =
    cond_both (ltb (length bs) 4) no_answer (answers (number (number_in bs)) (drop 4 bs)) (AnswerSo (1 ∷ bs)) (λ e. tt)
    (λ e. let p = four_split bs h (ltb-false (length bs) 4 e) in (ap (λ (v : List ℕ). 1 ∷ v) p.1, p.0))
answer_so (suc (suc zero)) bs h =
    cond_both (ltb (length bs) 8) no_answer (answers (two (number_in bs) (number_in (drop 4 bs))) (drop 8 bs)) (AnswerSo (2 ∷ bs)) (λ e. tt)
    (λ e. let p = two_split bs h (ltb-false (length bs) 8 e) in (ap (λ (v : List ℕ). 2 ∷ v) p.1, p.0))
answer_so (suc (suc (suc zero))) bs h =
    cond_both (ltb (length bs) 4) no_answer (cells_read (number_in bs) (drop 4 bs)) (AnswerSo (3 ∷ bs)) (λ e. tt)
    (λ e. let p = four_split bs h (ltb-false (length bs) 4 e) in
    subst (λ (v : List ℕ). AnswerSo (3 ∷ v) (cells_read (number_in bs) (drop 4 bs))) (sym p.1) (cells_so (number_in bs) (drop 4 bs) (bytes_drop 4 bs h) p.0))
answer_so (suc (suc (suc (suc zero)))) bs h = (refl, refl)
answer_so (suc (suc (suc (suc (suc zero))))) bs h =
    cond_both (ltb (length bs) 16) no_answer (answers (over_all (bits 64 (wide_in bs)) (bits 64 (wide_in (drop 8 bs)))) (drop 16 bs)) (AnswerSo (5 ∷ bs)) (λ e. tt)
    (λ e. let l = ltb-false (length bs) 16 e in
    let p = eight_split bs h (omega arith) in
    let q = eight_split (drop 8 bs) (bytes_drop 8 bs h) (simp length-drop (omega arith)) in
    let d : drop 8 (drop 8 bs) ≡ drop 16 bs = drop-drop 8 8 bs in
    let b = over_bytes 64 64 (wide_in bs) (wide_in (drop 8 bs)) p.0 q.0 in (
      ap (λ (v : List ℕ). 5 ∷ v) (p.1 ∙ ap (λ (v : List ℕ). eight (wide_in bs) ++ v) (q.1 ∙ ap (λ (v : List ℕ). eight (wide_in (drop 8 bs)) ++ v) d)) ∙ ap (λ (v : List ℕ). v ++ drop 16 bs) (sym b),
      and_from (leb (length (bits 64 (wide_in bs))) 64) (leb (length (bits 64 (wide_in (drop 8 bs)))) 64) (ap (λ (m : ℕ). leb m 64) (length_bits 64 (wide_in bs))) (ap (λ (m : ℕ). leb m 64) (length_bits 64 (wide_in (drop 8 bs)))),
    ))
answer_so (suc (suc (suc (suc (suc (suc k)))))) bs h = tt

first_answer_so : (bs : List ℕ) → Bytes bs → AnswerSo bs (first_answer bs)
unfolding first_answer
first_answer_so [] h = tt
first_answer_so (k ∷ bs) h = answer_so k bs (λ i. h (suc i))

pub read_as_written : ReadAsWritten
read_as_written = (first_is, λ bs a rest h e. subst (AnswerSo bs) e (first_answer_so bs h))
