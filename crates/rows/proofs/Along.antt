-- Laws of going along a row.
use Rattle.std.proofs.Common.{◌≡◌, ℕ, suc, ◌+◌, ◌-◌, ◌*◌, ◌/◌, ◌%◌, ◌<◌, ◌≤◌, min, List, [], ◌++◌, length, get_or, drop, sym, refl, ap, ◌∙◌, ap₂, inl, inr, suc-mul, zero-add, mod-eq_of_lt, arith}
use native.Mathlib.Nat.{add-mod_left, add-mul-mod_self_left}
use borrow.Rule.Slice.PartMut.{put_mid, post_of}
use Rattle.std.proofs.lemmas.List.{take_at, drop_all, append-nil, length-append, length-drop, get_or_append_left, get_or-append_right}
use Rattle.std.proofs.lemmas.List.Edits.{length-paste}
use Rattle.std.proofs.lemmas.Slice.{put_mid-paste}
use Rattle.std.proofs.lemmas.Nat.{div-add-mod', mod-mul-add, mod_below}
use Rattle.std.proofs.lemmas.Bool.{cases_lt}
use Rattle.weave.specs.Rows.{Row, one, then, long}
use Rattle.weave.specs.Promise.{number_at}
use Rattle.rows.specs.Along.{Along, Around}
use Rattle.rows.proofs.Parts.{at_first, at_second}

-- the numbers of two rows, one after the other, of which the near one has the first share
pub along_both : (p q : Row) (n from : ℕ) (xs ys : List ℕ) → n ≡ long p → length xs ≡ min (n - from) (length xs + length ys) → Along p (min from n) xs → Along q (from - n) ys → Along (then p q) from (xs ++ ys)
along_both p q n from xs ys e share a b k l =
    let m = length-append xs ys in
    elim (cases_lt k (length xs)) [
      | inl h ↦ get_or_append_left xs ys 0 k h ∙ (a k h ∙ (ap (number_at p) (omega arith) ∙ sym (at_first p q (from + k) (omega arith))))
      | inr h ↦
          get_or-append_right xs ys (length xs) k 0 refl h
          ∙ (b (k - length xs) (omega arith) ∙ (ap (number_at q) (omega arith) ∙ sym (at_second p q (from + k) (omega arith))))
    ]

-- a slice that is written in two parts
pub halves : (m : ℕ) (xs zs ys : List ℕ) → length xs ≡ m → put_mid m (length (xs ++ zs) - m) (xs ++ zs) ys ≡ xs ++ ys
halves m xs zs ys h =
    let d : post_of m (length (xs ++ zs) - m) (xs ++ zs) ≡ [] = drop_all (length (xs ++ zs) - m) (drop m (xs ++ zs)) (omega (arith, length-drop m (xs ++ zs))) in
    rw (d, take_at xs zs m h, append-nil ys)

pub length_mid : (a k : ℕ) (xs ys : List ℕ) → a + k ≤ length xs → length ys ≡ k → length (put_mid a k xs ys) ≡ length xs
length_mid a k xs ys h l = ap length (put_mid-paste a k xs ys ys k refl refl (sym l)) ∙ length-paste xs a ys k h (omega arith)

-- places round the end of a row
mod_on : (x j n : ℕ) → x % n + j < n → (x + j) % n ≡ x % n + j
mod_on x j n h =
    let e = div-add-mod' x n in
    let f : x + j ≡ x / n * n + (x % n + j) = omega arith in
    rw f (mod-mul-add (x / n) n (x % n + j) h)

-- before the end
before_end : (r : Row) (n from k : ℕ) → n ≡ long r → from % n + k < n → number_at r (from % n + k) ≡ number_at r ((from + k) % long r)
before_end r n from k e h = ap (number_at r) (sym (mod_on from k n h) ∙ ap (λ (m : ℕ). (from + k) % m) e)

-- past the end, which is m places on
past_end : (r : Row) (n from m k : ℕ) → n ≡ long r → from % n + m ≡ n → k < n → number_at r (0 + k) ≡ number_at r ((from + (m + k)) % long r)
past_end r n from m k e h l =
    let d = div-add-mod' from n in
    let s = suc-mul (from / n) n in
    let f : from + (m + k) ≡ suc (from / n) * n + k = omega arith in
    ap (number_at r) (zero-add k ∙ sym (mod-mul-add (suc (from / n)) n k l) ∙ ap₂ (λ (a b : ℕ). a % b) (sym f) e)

-- a round, found in two parts: up to the end, and from the beginning
pub first_round : (r : Row) (n from m round e : ℕ) (xs zs ys : List ℕ) → n ≡ long r → round ≤ n → m ≡ min (n - from % n) round → length xs ≡ m → m + length ys ≡ round
    → Along r (from % n) xs → Along r 0 ys → (j : ℕ) → j < round → get_or (put_mid m e (xs ++ zs) ys) j 0 ≡ number_at r ((from + j) % long r)
first_round r n from m round e xs zs ys is_long few share lx ly a b j h =
    rw (take_at xs zs m lx)
    (elim (cases_lt j m) [
      | inl k ↦ get_or_append_left xs _ 0 j (omega arith) ∙ (a j (omega arith) ∙ before_end r n from j is_long (omega arith))
      | inr k ↦
          let f : m + (j - m) ≡ j = omega arith in
          get_or-append_right xs _ m j 0 lx k
          ∙ (get_or_append_left ys _ 0 (j - m) (omega arith)
          ∙ (b (j - m) (omega arith) ∙ (past_end r n from m (j - m) is_long (omega arith) (omega arith) ∙ ap (λ (x : ℕ). number_at r ((from + x) % long r)) f)))
    ])

pub long_one : (n : ℕ) → long (one n) ≡ 1
unfolding long
long_one n = refl

-- a step that doubles what is there, up to the end
mod_twice : (k m : ℕ) → 0 < m → k % (m + m) % m ≡ k % m
mod_twice k m pos =
    let d = div-add-mod' k (m + m) in
    let f : k ≡ k % (m + m) + m * (k / (m + m) + k / (m + m)) = omega arith in
    sym (ap (λ (x : ℕ). x % m) f ∙ add-mul-mod_self_left (k % (m + m)) m (k / (m + m) + k / (m + m)))

pub doubled : (xs ys zs : List ℕ) (m n : ℕ) → 0 < m → m ≤ length xs → n ≡ min m (length xs - m) → length ys ≡ length xs → length zs ≡ length xs
    → ((k : ℕ) → k < m → get_or ys k 0 ≡ get_or xs k 0) → ((k : ℕ) → m ≤ k → k < m + n → get_or ys k 0 ≡ get_or xs (0 + (k - m)) 0)
    → ((k : ℕ) → k < length zs → get_or zs k 0 ≡ get_or ys (k % (m + n)) 0) → (k : ℕ) → k < length zs → get_or zs k 0 ≡ get_or xs (k % m) 0
doubled xs ys zs m n pos room e ly lz near far more k h =
    let step : (j : ℕ) → j < m + n → get_or ys j 0 ≡ get_or xs (j % m) 0 = λ j l.
    elim (cases_lt j m) [
      | inl b ↦ near j b ∙ ap (λ (x : ℕ). get_or xs x 0) (sym (mod-eq_of_lt b))
      | inr b ↦
          let f : m + (j - m) ≡ j = omega arith in
          far j b l ∙ ap (λ (x : ℕ). get_or xs x 0) (zero-add (j - m) ∙ (sym (mod-eq_of_lt (omega arith)) ∙ (sym (add-mod_left m (j - m)) ∙ ap (λ (x : ℕ). x % m) f)))
    ] in
    let s = step (k % (m + n)) (mod_below k (m + n) (omega arith)) in
    let t : k % (m + n) % m ≡ k % m =
    elim (cases_lt k (m + n)) [
      | inl b ↦ ap (λ (x : ℕ). x % m) (mod-eq_of_lt b)
      | inr b ↦
          let f : n ≡ m = omega arith in
          ap (λ (x : ℕ). k % (m + x) % m) f ∙ mod_twice k m pos
    ] in
    more k h ∙ (s ∙ ap (λ (x : ℕ). get_or xs x 0) t)

-- one round, and then the others
pub round_on : (r : Row) (n round from : ℕ) (xs ys : List ℕ) → n ≡ long r → round ≡ min n (length xs) → 0 < n → length ys ≡ length xs
    → ((j : ℕ) → j < round → get_or xs j 0 ≡ number_at r ((from + j) % long r)) → ((k : ℕ) → k < length ys → get_or ys k 0 ≡ get_or xs (k % round) 0) → Around r from ys
round_on r n round from xs ys e is pos ly first more k h =
    let p : 0 < round = omega arith in
    let c : (from + k % round) % long r ≡ (from + k) % long r =
    elim (cases_lt k round) [
      | inl b ↦ ap (λ (x : ℕ). (from + x) % long r) (mod-eq_of_lt b)
      | inr b ↦
          let f : round ≡ long r = omega arith in
          let d = div-add-mod' k (long r) in
          let g : from + k ≡ from + k % long r + long r * (k / long r) = omega arith in
          ap (λ (x : ℕ). (from + k % x) % long r) f ∙ sym (ap (λ (x : ℕ). x % long r) g ∙ add-mul-mod_self_left (from + k % long r) (long r) (k / long r))
    ] in
    more k h ∙ (first (k % round) (mod_below k round p) ∙ ap (number_at r) c)
