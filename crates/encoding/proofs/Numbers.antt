-- Numbers of four and of eight bytes: what is written is read, and what is read was written.
use Rattle.std.proofs.Common.{◌≡◌, ℕ, zero, suc, ◌+◌, ◌*◌, ◌/◌, ◌%◌, ◌<◌, ◌≤◌, true, List, [], ◌∷◌, ◌++◌, length, take, drop, set, sym, refl, ap, ◌∙◌, mod-eq_of_lt, subst, add-one, arith, length-drop, get_or-drop, drop-drop}
use native.Mathlib.Nat.{div-div-eq-div-mul, mod-add-div'}
use Rattle.std.proofs.lemmas.Bool.{ltb-true, lt-ltb}
use Rattle.weave.specs.Promise.{field}
use Rattle.std.proofs.lemmas.List.{length-set, take_more_set, take_all}
use Rattle.encoding.specs.Numbers.{four, eight, number_in, wide_in, numbers_in, Bytes}

low : (a m : ℕ) → a < 256 → (a + m * 256) % 256 ≡ a
low a m h = omega arith

high : (a m : ℕ) → a < 256 → (a + m * 256) / 256 ≡ m
high a m h = omega arith

-- the four lowest bytes of a number
lowest : (n : ℕ) → n % 256 + n / 256 % 256 * 256 + n / 65536 % 256 * 65536 + n / 16777216 % 256 * 16777216 + n / 4294967296 * 4294967296 ≡ n
lowest n =
    let a : n / 256 / 256 ≡ n / 65536 = div-div-eq-div-mul n 256 256 in
    let b : n / 65536 / 256 ≡ n / 16777216 = div-div-eq-div-mul n 65536 256 in
    let c : n / 16777216 / 256 ≡ n / 4294967296 = div-div-eq-div-mul n 16777216 256 in
    let x : n / 256 % 256 + n / 65536 * 256 ≡ n / 256 = rw a at (mod-add-div' (n / 256) 256) in
    let y : n / 65536 % 256 + n / 16777216 * 256 ≡ n / 65536 = rw b at (mod-add-div' (n / 65536) 256) in
    let z : n / 16777216 % 256 + n / 4294967296 * 256 ≡ n / 16777216 = rw c at (mod-add-div' (n / 16777216) 256) in
    omega (arith, mod-add-div' n 256)

-- a number that four bytes hold
pub four_back : (n : ℕ) (bs : List ℕ) → field n ≡ true → number_in (four n ++ bs) ≡ n
four_back n bs h = let k = ltb-true n 4294967296 h in omega (arith, lowest n)

-- a number that eight bytes hold
pub eight_back : (n : ℕ) (bs : List ℕ) → n < 18446744073709551616 → wide_in (eight n ++ bs) ≡ n
eight_back n bs h =
    let m : ℕ = n / 4294967296 in
    let a : m / 256 ≡ n / 1099511627776 = div-div-eq-div-mul n 4294967296 256 in
    let b : m / 65536 ≡ n / 281474976710656 = div-div-eq-div-mul n 4294967296 65536 in
    let c : m / 16777216 ≡ n / 72057594037927936 = div-div-eq-div-mul n 4294967296 16777216 in
    let z = rw (a, b, c) at (lowest m) in
    omega (arith, lowest n)

four_is : (n a b c d : ℕ) → n ≡ a + b * 256 + c * 65536 + d * 16777216 → a < 256 → b < 256 → c < 256 → d < 256 → (n < 4294967296) × (a ∷ b ∷ c ∷ d ∷ [] ≡ four n)
four_is n a b c d e ha hb hc hd =
    let q : n ≡ a + (b + (c + d * 256) * 256) * 256 = omega arith in
    let e0 : n % 256 ≡ a = ap (λ (k : ℕ). k % 256) q ∙ low a (b + (c + d * 256) * 256) ha in
    let h1 : n / 256 ≡ b + (c + d * 256) * 256 = ap (λ (k : ℕ). k / 256) q ∙ high a (b + (c + d * 256) * 256) ha in
    let e1 : n / 256 % 256 ≡ b = ap (λ (k : ℕ). k % 256) h1 ∙ low b (c + d * 256) hb in
    let h2 : n / 65536 ≡ c + d * 256 = sym (div-div-eq-div-mul n 256 256) ∙ (ap (λ (k : ℕ). k / 256) h1 ∙ high b (c + d * 256) hb) in
    let e2 : n / 65536 % 256 ≡ c = ap (λ (k : ℕ). k % 256) h2 ∙ low c d hc in
    let h3 : n / 16777216 ≡ d = sym (div-div-eq-div-mul n 65536 256) ∙ (ap (λ (k : ℕ). k / 256) h2 ∙ high c d hc) in
    let e3 : n / 16777216 % 256 ≡ d = ap (λ (k : ℕ). k % 256) h3 ∙ mod-eq_of_lt hd in
    (omega arith, cc)

-- four bytes are those of the number in them
pub four_split : (bs : List ℕ) → Bytes bs → 4 ≤ length bs → (field (number_in bs) ≡ true) × (bs ≡ four (number_in bs) ++ drop 4 bs)
four_split [] h l = absurd (omega arith)
four_split (a ∷ []) h l = absurd (omega arith)
four_split (a ∷ b ∷ []) h l = absurd (omega arith)
four_split (a ∷ b ∷ c ∷ []) h l = absurd (omega arith)
four_split (a ∷ b ∷ c ∷ d ∷ bs) h l =
    let p = four_is (a + b * 256 + c * 65536 + d * 16777216) a b c d refl (h 0) (h 1) (h 2) (h 3) in
    (lt-ltb (number_in (a ∷ b ∷ c ∷ d ∷ bs)) 4294967296 p.0, ap (λ (w : List ℕ). w ++ bs) p.1)

pub bytes_drop : (n : ℕ) (bs : List ℕ) → Bytes bs → Bytes (drop n bs)
bytes_drop n bs h i = rw get_or-drop (h (n + i))

lower : (a m : ℕ) → (a + m * 256) % 256 ≡ a % 256
lower a m = omega arith

-- a number of eight bytes has the four of its low half, and the four of its high
eight_halves : (l h : ℕ) → l < 4294967296 → eight (l + h * 4294967296) ≡ four l ++ four h
eight_halves l h k =
    let n : ℕ = l + h * 4294967296 in
    let q : n / 4294967296 ≡ h = omega arith in
    let e0 : n % 256 ≡ l % 256 = omega arith in
    let d1 : n / 256 ≡ l / 256 + h * 65536 * 256 = omega arith in
    let d2 : n / 65536 ≡ l / 65536 + h * 256 * 256 = omega arith in
    let d3 : n / 16777216 ≡ l / 16777216 + h * 256 = omega arith in
    let e1 : n / 256 % 256 ≡ l / 256 % 256 = ap (λ (x : ℕ). x % 256) d1 ∙ lower (l / 256) (h * 65536) in
    let e2 : n / 65536 % 256 ≡ l / 65536 % 256 = ap (λ (x : ℕ). x % 256) d2 ∙ lower (l / 65536) (h * 256) in
    let e3 : n / 16777216 % 256 ≡ l / 16777216 % 256 = ap (λ (x : ℕ). x % 256) d3 ∙ lower (l / 16777216) h in
    let a : n / 1099511627776 ≡ h / 256 = sym (div-div-eq-div-mul n 4294967296 256) ∙ ap (λ (x : ℕ). x / 256) q in
    let b : n / 281474976710656 ≡ h / 65536 = sym (div-div-eq-div-mul n 4294967296 65536) ∙ ap (λ (x : ℕ). x / 65536) q in
    let c : n / 72057594037927936 ≡ h / 16777216 = sym (div-div-eq-div-mul n 4294967296 16777216) ∙ ap (λ (x : ℕ). x / 16777216) q in
    cc

-- eight bytes are those of the number in them
pub eight_split : (bs : List ℕ) → Bytes bs → 8 ≤ length bs → (wide_in bs < 18446744073709551616) × (bs ≡ eight (wide_in bs) ++ drop 8 bs)
eight_split bs h l =
    let p = four_split bs h (omega arith) in
    let q = four_split (drop 4 bs) (bytes_drop 4 bs h) (simp length-drop (omega arith)) in
    let a = ltb-true (number_in bs) 4294967296 p.0 in
    let b = ltb-true (number_in (drop 4 bs)) 4294967296 q.0 in
    let e : drop 4 (drop 4 bs) ≡ drop 8 bs = drop-drop 4 4 bs in (
      omega arith,
      p.1 ∙ (ap (λ (v : List ℕ). four (number_in bs) ++ v) (q.1 ∙ ap (λ (v : List ℕ). four (number_in (drop 4 bs)) ++ v) e)
          ∙ ap (λ (v : List ℕ). v ++ drop 8 bs) (sym (eight_halves (number_in bs) (number_in (drop 4 bs)) a))),
    )

-- one number more
numbers_more : (n : ℕ) (bs : List ℕ) → numbers_in (suc n) bs ≡ numbers_in n bs ++ (number_in (drop (4 * n) bs) ∷ [])
numbers_more zero bs = refl
numbers_more (suc n) bs =
    ap (λ (w : List ℕ). number_in bs ∷ w) (numbers_more n (drop 4 bs) ∙ ap (λ (w : List ℕ). numbers_in n (drop 4 bs) ++ (number_in w ∷ [])) (drop-drop (4 * n) 4 bs ∙ ap (λ (k : ℕ). drop k bs) (omega arith)))

-- numbers that were taken from bytes, one after another, into a list
pub record TakenSo (n i : ℕ) (xs bs left : List ℕ) : Type 0 where
  pub there : 4 * i ≤ length bs
  pub behind : left ≡ drop (4 * i) bs
  pub numbers : take i xs ≡ numbers_in i bs
  pub size : length xs ≡ n

pub taken_more : (n i v : ℕ) (xs bs left rest : List ℕ) → i < n → TakenSo n i xs bs left → (4 ≤ length left) × (v ≡ number_in left) × (rest ≡ drop 4 left) → TakenSo n (i + 1) (set xs i v) bs rest
taken_more n i v xs bs left rest h t p =
    let l = ap length t.behind ∙ length-drop (4 * i) bs in
    record {
      there = omega (arith, p.0);
      behind = p.2 ∙ (ap (drop 4) t.behind ∙ (drop-drop 4 (4 * i) bs ∙ ap (λ (k : ℕ). drop k bs) (omega arith)));
      numbers = take_more_set xs i v (omega (arith, t.size)) ∙ rw (add-one, numbers_more i bs, t.numbers, p.1, t.behind) refl;
      size = length-set xs i v ∙ t.size;
    }

pub taken_all : (n i : ℕ) (xs bs left : List ℕ) → n ≤ i → i ≤ n → TakenSo n i xs bs left → (4 * n ≤ length bs) × (xs ≡ numbers_in n bs) × (left ≡ drop (4 * n) bs)
taken_all n i xs bs left g h t =
    let e : i ≡ n = omega arith in
    let w = subst (λ (k : ℕ). TakenSo n k xs bs left) e t in
    (w.there, sym (take_all n xs (omega (arith, w.size))) ∙ w.numbers, w.behind)
