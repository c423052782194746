-- Answers as bytes: how they are written, and how they are read.
use Rattle.std.proofs.Common.{◌≡◌, ℕ, ◌+◌, ◌-◌, ◌/◌, ◌%◌, ◌^◌, ◌<◌, ◌≤◌, min, Bool, true, false, ◌&&◌, eqb, ltb, leb, ◌⊎◌, List, [], ◌∷◌, ◌++◌, map, length, get_or, take, drop, replicate, sym, refl, ap, ◌∙◌, inl, inr, arith}
use native.Mathlib.Nat.{min-eq_left}
use Rattle.std.specs.List.{range_with_len}
use Rattle.std.proofs.lemmas.List.FromFn.{length-map-range_with_len}
use Rattle.std.proofs.lemmas.List.{ext_get_or, get_or_append_left, get_or-append_right, get_or-take, get_or_past, get_or-replicate, length-replicate, length-take-le}
use Rattle.std.proofs.lemmas.Bool.{cases_lt, lt-ltb, le-leb, eq-eqb, and_from, or_left, or_right}
use Rattle.weave.specs.Calls.{cells, over_all}
use Rattle.encoding.specs.Numbers.{four, eight, fours, placed}
use Rattle.encoding.specs.Answers.{bit, bits, value, bytes_for, octet, packed, bits_in, answer_bytes, answers, clean, cells_read}
use Rattle.encoding.proofs.Bits.{value_bits, length_bits_in, get_or_bits_in, pow_up}
use Rattle.encoding.proofs.Writing.{placed_more}

-- cells that were written behind their count
pub cells_written : (xs ys zs bs : List ℕ) (n at size : ℕ) → n ≤ 1024 → length xs ≡ 160 → ys ≡ placed xs 0 (3 ∷ fours (n ∷ [])) → at ≡ 5 → size ≡ bytes_for n →
    zs ≡ placed ys at (map (octet (bits_in bs n)) (range_with_len 0 size)) → (at + size ≡ length (answer_bytes (cells (bits_in bs n)))) × (zs ≡ placed xs 0 (answer_bytes (cells (bits_in bs n))))
unfolding answer_bytes packed
cells_written xs ys zs bs n at size h l e ea es f =
    let ln = length_bits_in bs n in
    let lc = length-map-range_with_len (octet (bits_in bs n)) 0 size in
    let b : answer_bytes (cells (bits_in bs n)) ≡ 3 ∷ (four n ++ map (octet (bits_in bs n)) (range_with_len 0 size)) =
    ap (λ (k : ℕ). 3 ∷ (four k ++ map (octet (bits_in bs n)) (range_with_len 0 (bytes_for k)))) ln
    ∙ ap (λ (k : ℕ). 3 ∷ (four n ++ map (octet (bits_in bs n)) (range_with_len 0 k))) (sym es) in
    let lb = ap length b in (
      omega arith,
      f ∙ (ap (λ (w : List ℕ). placed w at (map (octet (bits_in bs n)) (range_with_len 0 size))) e
          ∙ (placed_more xs (3 ∷ fours (n ∷ [])) (map (octet (bits_in bs n)) (range_with_len 0 size)) 0 at (omega arith) ea
          ∙ ap (placed xs 0) (sym b))),
    )

-- sets as numbers of eight bytes each
pub over_bytes : (m n s t : ℕ) → s < 2 ^ m → t < 2 ^ n → answer_bytes (over_all (bits m s) (bits n t)) ≡ 5 ∷ (eight s ++ eight t)
unfolding answer_bytes
over_bytes m n s t hs ht =
    ap (λ (k : ℕ). 5 ∷ (eight k ++ eight (value (bits n t)))) (value_bits m s hs) ∙ ap (λ (k : ℕ). 5 ∷ (eight s ++ eight k)) (value_bits n t ht)

pub narrow_over : (m n s t : ℕ) → m ≤ 64 → n ≤ 64 → s < 2 ^ m → t < 2 ^ n → answer_bytes (over_all (bits 64 s) (bits 64 t)) ≡ answer_bytes (over_all (bits m s) (bits n t))
narrow_over m n s t hm hn hs ht =
    let a = pow_up m 64 hm in
    let b = pow_up n 64 hn in
    over_bytes 64 64 s t (omega arith) (omega arith) ∙ sym (over_bytes m n s t hs ht)

-- cells that are read
module _ (n : ℕ) (bs : List ℕ) where
  pub clean_from : (n % 8 ≡ 0) ⊎ (get_or bs (n / 8) 0 < 2 ^ (n % 8)) → clean n bs ≡ true
  clean_from (inl e) = or_left (eqb (n % 8) 0) (ltb (get_or bs (n / 8) 0) (2 ^ (n % 8))) (eq-eqb (n % 8) 0 e)
  clean_from (inr l) = or_right (eqb (n % 8) 0) (ltb (get_or bs (n / 8) 0) (2 ^ (n % 8))) (lt-ltb (get_or bs (n / 8) 0) (2 ^ (n % 8)) l)

  pub cells_all : n ≤ 1024 → bytes_for n ≤ length bs → clean n bs ≡ true → cells_read n bs ≡ answers (cells (bits_in bs n)) (drop (bytes_for n) bs)
  unfolding cells_read
  cells_all h l k =
      rw (and_from (leb n 1024) (leb (bytes_for n) (length bs) && clean n bs) (le-leb n 1024 h) (and_from (leb (bytes_for n) (length bs)) (clean n bs) (le-leb (bytes_for n) (length bs) l) k)) refl

-- the bytes of cells with zeros behind them
module _ (n m : ℕ) (bs ps xs : List ℕ) (h : bytes_for n ≤ length bs) (ep : ps ≡ take (bytes_for n) bs) (ex : xs ≡ ps ++ replicate m 0) where
  lp : length ps ≡ bytes_for n
  lp = ap length ep ∙ length-take-le (bytes_for n) bs h

  byte_same : (i : ℕ) → i < bytes_for n → get_or xs i 0 ≡ get_or bs i 0
  byte_same i l =
      ap (λ (v : List ℕ). get_or v i 0) ex
      ∙ (get_or_append_left ps (replicate m 0) 0 i (let k = lp in omega arith) ∙ (ap (λ (v : List ℕ). get_or v i 0) ep ∙ get_or-take (bytes_for n) bs i 0 l))

  pub bits_padded : bits_in xs n ≡ bits_in bs n
  bits_padded =
      let lx = length_bits_in xs n in
      ext_get_or false (bits_in xs n) (bits_in bs n) (lx ∙ sym (length_bits_in bs n))
      (λ i l. get_or_bits_in xs n i (omega arith) ∙ (ap (λ (k : ℕ). bit k (i % 8)) (byte_same (i / 8) (omega arith)) ∙ sym (get_or_bits_in bs n i (omega arith))))

  pub zeros_behind : (i : ℕ) → bytes_for n ≤ i → get_or xs i 0 ≡ 0
  zeros_behind i l =
      ap (λ (v : List ℕ). get_or v i 0) ex ∙ (get_or-append_right ps (replicate m 0) (bytes_for n) i 0 lp l ∙ zeros (i - bytes_for n))
    where
      zeros : (j : ℕ) → get_or {A = ℕ} (replicate m 0) j 0 ≡ 0
      zeros j = elim (cases_lt j m) [ inl k ↦ get_or-replicate m j 0 0 k | inr k ↦ get_or_past (replicate m 0) j 0 (let e = length-replicate {A = ℕ} m 0 in omega arith) ]

-- cells that are all there
pub cells_got : (n size m : ℕ) (bs ps rest xs : List ℕ) → n ≤ 1024 → size ≡ bytes_for n → size ≤ length bs → clean n bs ≡ true → ps ≡ take size bs → rest ≡ drop size bs → xs ≡ ps ++ replicate m 0 →
    (cells_read n bs ≡ answers (cells (bits_in xs (min n 1024))) rest) × ((n ≤ 1024) × ((i : ℕ) → bytes_for n ≤ i → get_or xs i 0 ≡ 0))
cells_got n size m bs ps rest xs h es l k ep er ex =
    let h8 : bytes_for n ≤ length bs = omega (arith, es) in
    let p8 : ps ≡ take (bytes_for n) bs = ep ∙ ap (λ (j : ℕ). take j bs) es in
    let eb : bits_in xs (min n 1024) ≡ bits_in bs n = ap (bits_in xs) (min-eq_left h) ∙ bits_padded n m bs ps xs h8 p8 ex in
    let r8 : rest ≡ drop (bytes_for n) bs = er ∙ ap (λ (j : ℕ). drop j bs) es in (
      cells_all n bs h h8 k ∙ (ap (λ (v : List Bool). answers (cells v) (drop (bytes_for n) bs)) (sym eb) ∙ ap (answers (cells (bits_in xs (min n 1024)))) (sym r8)),
      (h, zeros_behind n m bs ps xs h8 p8 ex),
    )
