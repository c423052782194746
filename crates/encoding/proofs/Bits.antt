-- Bits of numbers and of bytes, and the numbers that bits are.
use Rattle.std.proofs.Common.{◌≡◌, ℕ, zero, suc, ◌+◌, ◌-◌, ◌*◌, ◌/◌, ◌%◌, ◌^◌, ◌<◌, ◌≤◌, Bool, true, false, eqb, List, [], ◌∷◌, ◌++◌, map, length, get_or, take, drop, replicate, sym, refl, ap, ◌∙◌, inl, inr, mod-eq_of_lt, pow-suc, div-one, add-one, one-add, arith}
use native.Mathlib.Nat.{zero-div}
use Rattle.std.specs.List.{range_with_len}
use Rattle.std.proofs.lemmas.Bool.{cases_lt}
use Rattle.std.proofs.lemmas.List.{ext_get_or, get_or_append_left, get_or-append_right, get_or-take, get_or-drop, get_or_past, length-append, length-drop, length-replicate, get_or-replicate, drop-map, take_all}
use Rattle.std.proofs.lemmas.List.FromFn.{length-map-range_with_len, get_or-map-range_with_len, take-map-range_with_len}
use Rattle.std.proofs.lemmas.Nat.{shr-shr, mod-pow-add, pow_below}
use Rattle.weave.specs.Rows.{pick}
use Rattle.encoding.specs.Answers.{bit, bits, value, bytes_for, octet, packed, bit_of, bits_in}

-- the lowest bit of a number
lowest : (y : ℕ) → pick (eqb (y % 2) 1) 1 0 ≡ y % 2
lowest y = elim (cases_lt (y % 2) 1) [
  | inl h ↦ (let e : y % 2 ≡ 0 = omega arith in rw e)
  | inr h ↦ (let e : y % 2 ≡ 1 = omega arith in rw e)
]

bit_half : (x i : ℕ) → bit (x / 2) i ≡ bit x (1 + i)
bit_half x i = ap (λ (k : ℕ). eqb (k % 2) 1) (shr-shr x 1 i)

-- m bits that are those of a number make its lowest m
pub value_of_bits : (m a x : ℕ) (f : ℕ → Bool) → ((j : ℕ) → j < m → f (a + j) ≡ bit x j) → value (map f (range_with_len a m)) ≡ x % 2 ^ m
unfolding value
value_of_bits zero a x f h = omega arith
value_of_bits (suc m) a x f h =
    let e0 : f a ≡ bit x 0 = ap f (omega arith) ∙ h 0 (omega arith) in
    let v0 : pick (f a) 1 0 ≡ x % 2 = ap (λ (b : Bool). pick b 1 0) e0 ∙ (ap (λ (k : ℕ). pick (eqb (k % 2) 1) 1 0) (div-one x) ∙ lowest x) in
    let v1 : value (map f (range_with_len (a + 1) m)) ≡ x / 2 % 2 ^ m =
    value_of_bits m (a + 1) (x / 2) f (λ j l. ap f (omega arith) ∙ (h (1 + j) (omega arith) ∙ sym (bit_half x j))) in
    let s : x % 2 ^ (m + 1) ≡ x / 2 % 2 ^ m * 2 + x % 2 = mod-pow-add x m 1 in
    let p : x % 2 ^ suc m ≡ x % 2 ^ (m + 1) = ap (λ (k : ℕ). x % 2 ^ k) (sym (add-one m)) in
    omega arith

pub value_bits : (n x : ℕ) → x < 2 ^ n → value (bits n x) ≡ x
unfolding bits
value_bits n x h = value_of_bits n 0 x (bit x) (λ j l. ap (bit x) (omega arith)) ∙ mod-eq_of_lt h

pub length_bits : (n x : ℕ) → length (bits n x) ≡ n
unfolding bits
length_bits n x = length-map-range_with_len (bit x) 0 n

pub get_or_bits : (n x i : ℕ) → i < n → get_or (bits n x) i false ≡ bit x i
unfolding bits
get_or_bits n x i h = get_or-map-range_with_len (bit x) 0 n i i false h (omega arith)

pub length_bits_in : (bs : List ℕ) (n : ℕ) → length (bits_in bs n) ≡ n
unfolding bits_in
length_bits_in bs n = length-map-range_with_len (bit_of bs) 0 n

pub get_or_bits_in : (bs : List ℕ) (n i : ℕ) → i < n → get_or (bits_in bs n) i false ≡ bit_of bs i
unfolding bits_in
get_or_bits_in bs n i h = get_or-map-range_with_len (bit_of bs) 0 n i i false h (omega arith)

front_bit : (y : Bool) (v : ℕ) → bit (pick y 1 0 + 2 * v) 0 ≡ y
front_bit true v = let e : (1 + 2 * v) / 1 % 2 ≡ 1 = ap (λ (k : ℕ). k % 2) (div-one (1 + 2 * v)) ∙ omega arith in rw e
front_bit false v = let e : (0 + 2 * v) / 1 % 2 ≡ 0 = ap (λ (k : ℕ). k % 2) (div-one (0 + 2 * v)) ∙ omega arith in rw e

half_front : (y : Bool) (v : ℕ) → (pick y 1 0 + 2 * v) / 2 ≡ v
half_front true v = omega arith
half_front false v = omega arith

-- bit i of the number that bits are is the i-th of them
pub bit_value : (ys : List Bool) (i : ℕ) → bit (value ys) i ≡ get_or ys i false
unfolding value
bit_value [] i = rw (zero-div (2 ^ i)) refl
bit_value (y ∷ ys) zero = front_bit y (value ys)
bit_value (y ∷ ys) (suc i) =
    ap (bit (pick y 1 0 + 2 * value ys)) (sym (one-add i))
    ∙ (sym (bit_half (pick y 1 0 + 2 * value ys) i)
    ∙ (ap (λ (k : ℕ). bit k i) (half_front y (value ys)) ∙ bit_value ys i))

pub value_below : (ys : List Bool) → value ys < 2 ^ length ys
unfolding value
value_below [] = omega arith
value_below (true ∷ ys) = let h = value_below ys in let p = pow-suc 2 (length ys) in omega arith
value_below (false ∷ ys) = let h = value_below ys in let p = pow-suc 2 (length ys) in omega arith

pub pow_up : (m n : ℕ) → m ≤ n → 2 ^ m ≤ 2 ^ n
pow_up m n h = elim (cases_lt m n) [
  | inl l ↦ (let k = pow_below m n l in omega arith)
  | inr l ↦ (let e : m ≡ n = omega arith in rw e (omega arith))
]

-- what n bits that are less than 2 ^ m come to
pub bits_filled : (n : ℕ) (ys : List Bool) → length ys ≤ n → bits n (value ys) ≡ ys ++ replicate (n - length ys) false
bits_filled n ys h =
    ext_get_or false (bits n (value ys)) (ys ++ replicate (n - length ys) false)
    (length_bits n (value ys) ∙ sym (length-append ys (replicate (n - length ys) false) ∙ (ap (λ (k : ℕ). length ys + k) (length-replicate (n - length ys) false) ∙ omega arith)))
    (λ i l. let l2 = length_bits n (value ys) in
    get_or_bits n (value ys) i (omega arith) ∙ (bit_value ys i ∙ sym (at i (omega arith))))
  where
    at : (i : ℕ) → i < n → get_or (ys ++ replicate (n - length ys) false) i false ≡ get_or ys i false
    at i l = elim (cases_lt i (length ys)) [
      | inl k ↦ get_or_append_left ys (replicate (n - length ys) false) false i k
      | inr k ↦ (get_or-append_right ys (replicate (n - length ys) false) (length ys) i false refl k
          ∙ (get_or-replicate (n - length ys) (i - length ys) false false (omega arith) ∙ sym (get_or_past ys i false k)))
    ]

same_counting : (a b m n : ℕ) → a ≡ b → m ≡ n → range_with_len a m ≡ range_with_len b n
same_counting a b m n e f = ap (λ (x : ℕ). range_with_len x m) e ∙ ap (range_with_len b) f

drop_counting : (k a n : ℕ) → drop k (range_with_len a n) ≡ range_with_len (a + k) (n - k)
drop_counting zero a n = same_counting a (a + 0) n (n - 0) (omega arith) (omega arith)
drop_counting (suc k) a zero = ap (range_with_len (a + suc k)) {x = 0} {y = 0 - suc k} (omega arith)
drop_counting (suc k) a (suc n) = drop_counting k (a + 1) n ∙ same_counting (a + 1 + k) (a + suc k) (n - k) (suc n - suc k) (omega arith) (omega arith)

-- byte i of the first n bits of bytes: the bits in use, and no other
module _ (bs : List ℕ) (n i : ℕ) where
  eight_of : (m : ℕ) → m ≤ 8 → value (map (bit_of bs) (range_with_len (8 * i) m)) ≡ get_or bs i 0 % 2 ^ m
  eight_of m h =
      value_of_bits m (8 * i) (get_or bs i 0) (bit_of bs)
      (λ j l. let q : (8 * i + j) / 8 ≡ i = omega arith in
      let r : (8 * i + j) % 8 ≡ j = omega arith in
      ap (λ (k : ℕ). bit (get_or bs k 0) ((8 * i + j) % 8)) q ∙ ap (bit (get_or bs i 0)) r)

  from : drop (8 * i) (map (bit_of bs) (range_with_len 0 n)) ≡ map (bit_of bs) (range_with_len (8 * i) (n - 8 * i))
  from = drop-map (bit_of bs) (8 * i) (range_with_len 0 n) ∙ ap (map (bit_of bs)) (drop_counting (8 * i) 0 n ∙ same_counting (0 + 8 * i) (8 * i) (n - 8 * i) (n - 8 * i) (omega arith) refl)

  pub octet_all : 8 * i + 8 ≤ n → octet (bits_in bs n) i ≡ get_or bs i 0 % 256
  unfolding bits_in
  octet_all h = ap (λ (ys : List Bool). value (take 8 ys)) from ∙ (ap value (take-map-range_with_len (bit_of bs) (8 * i) (n - 8 * i) 8 (omega arith)) ∙ eight_of 8 (omega arith))

  pub octet_some : n - 8 * i ≤ 8 → octet (bits_in bs n) i ≡ get_or bs i 0 % 2 ^ (n - 8 * i)
  unfolding bits_in
  octet_some h =
      let l = length-map-range_with_len (bit_of bs) (8 * i) (n - 8 * i) in
      ap (λ (ys : List Bool). value (take 8 ys)) from ∙ (ap value (take_all 8 (map (bit_of bs) (range_with_len (8 * i) (n - 8 * i))) (omega arith)) ∙ eight_of (n - 8 * i) h)

-- bits that are packed
pub length_packed : (ys : List Bool) → length (packed ys) ≡ bytes_for (length ys)
unfolding packed
length_packed ys = length-map-range_with_len (octet ys) 0 (bytes_for (length ys))

pub get_or_packed : (ys : List Bool) (i : ℕ) → i < bytes_for (length ys) → get_or (packed ys) i 0 ≡ octet ys i
unfolding packed
get_or_packed ys i h = get_or-map-range_with_len (octet ys) 0 (bytes_for (length ys)) i i 0 h (omega arith)

module _ (ys : List Bool) (rest : List ℕ) where
  pub packed_at : (i : ℕ) → i < bytes_for (length ys) → get_or (packed ys ++ rest) i 0 ≡ octet ys i
  packed_at i h = let l = length_packed ys in get_or_append_left (packed ys) rest 0 i (omega arith) ∙ get_or_packed ys i h

  -- they come back
  pub packed_back : bits_in (packed ys ++ rest) (length ys) ≡ ys
  packed_back =
      ext_get_or false (bits_in (packed ys ++ rest) (length ys)) ys (length_bits_in (packed ys ++ rest) (length ys))
      (λ i l. let l2 = length_bits_in (packed ys ++ rest) (length ys) in at i (omega arith))
    where
      at : (i : ℕ) → i < length ys → get_or (bits_in (packed ys ++ rest) (length ys)) i false ≡ get_or ys i false
      at i l =
          get_or_bits_in (packed ys ++ rest) (length ys) i l
          ∙ (ap (λ (k : ℕ). bit k (i % 8)) (packed_at (i / 8) (omega arith))
          ∙ (bit_value (take 8 (drop (8 * (i / 8)) ys)) (i % 8)
          ∙ (get_or-take 8 (drop (8 * (i / 8)) ys) (i % 8) false (omega arith)
          ∙ (get_or-drop (8 * (i / 8)) ys (i % 8) false ∙ ap (λ (k : ℕ). get_or ys k false) (omega arith)))))

  -- with no bit more
  pub packed_clean : 0 < length ys % 8 → get_or (packed ys ++ rest) (length ys / 8) 0 < 2 ^ (length ys % 8)
  packed_clean h =
      let e = packed_at (length ys / 8) (omega arith) in
      let v = value_below (take 8 (drop (8 * (length ys / 8)) ys)) in
      let d = length-drop (8 * (length ys / 8)) ys in
      let t : take 8 (drop (8 * (length ys / 8)) ys) ≡ drop (8 * (length ys / 8)) ys = take_all 8 (drop (8 * (length ys / 8)) ys) (omega arith) in
      let l : length (take 8 (drop (8 * (length ys / 8)) ys)) ≡ length ys % 8 = ap length t ∙ (d ∙ omega arith) in
      rw (e, ← l) v
