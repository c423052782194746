-- Bytes written over others, one part after another.
use Rattle.std.proofs.Common.{◌≡◌, ℕ, ◌+◌, ◌*◌, ◌<◌, ◌≤◌, List, [], ◌∷◌, ◌++◌, map, length, get_or, take, drop, set, sym, refl, ap, ◌∙◌, append_assoc, add-zero, add_assoc, arith, length-append, take-append-drop, length-take-le, drop-drop}
use borrow.Rule.Slice.PartMut.{put_mid}
use Rattle.std.proofs.lemmas.List.{take_at, drop_at, set_at, drop_more, take_more, take_more_set, take_all}
use Rattle.std.specs.List.{range_with_len}
use Rattle.std.proofs.lemmas.List.FromFn.{map-range_with_len_more}
use Rattle.encoding.specs.Numbers.{placed, four, fours}

-- a part of a slice that was written over
pub mid_placed : (a k : ℕ) (xs ys zs : List ℕ) → ys ≡ zs → k ≡ length zs → put_mid a k xs ys ≡ placed xs a zs
unfolding placed
mid_placed a k xs ys zs e h = rw (e, h) (ap (λ (w : List ℕ). take a xs ++ (zs ++ w)) (drop-drop (length zs) a xs))

pub placed_none : (xs : List ℕ) (at : ℕ) → xs ≡ placed xs at []
unfolding placed
placed_none xs at = rw add-zero (sym (take-append-drop at xs))

-- a second part after a first
pub placed_more : (xs ys zs : List ℕ) (at b : ℕ) → at + length ys ≤ length xs → b ≡ at + length ys → placed (placed xs at ys) b zs ≡ placed xs at (ys ++ zs)
unfolding placed
placed_more xs ys zs at b h eb =
    let n : ℕ = length ys in
    let front : List ℕ = take at xs ++ ys in
    let lf : length front ≡ b = length-append (take at xs) ys ∙ (ap (λ (k : ℕ). k + n) (length-take-le at xs (omega arith)) ∙ sym eb) in
    let whole : take at xs ++ (ys ++ drop (at + n) xs) ≡ front ++ drop (at + n) xs = sym (append_assoc (take at xs) ys (drop (at + n) xs)) in
    let t : take b (front ++ drop (at + n) xs) ≡ front = take_at front (drop (at + n) xs) b lf in
    let d : drop (b + length zs) (front ++ drop (at + n) xs) ≡ drop (at + length (ys ++ zs)) xs =
    sym (drop-drop (length zs) b (front ++ drop (at + n) xs))
    ∙ (ap (drop (length zs)) (drop_at front (drop (at + n) xs) b lf)
    ∙ (drop-drop (length zs) (at + n) xs
    ∙ ap (λ (k : ℕ). drop k xs) (add_assoc at n (length zs) ∙ ap (λ (k : ℕ). at + k) (sym (length-append ys zs))))) in
    ap (λ (w : List ℕ). take b w ++ (zs ++ drop (b + length zs) w)) whole
    ∙ (ap (λ (w : List ℕ). w ++ (zs ++ drop (b + length zs) (front ++ drop (at + n) xs))) t
    ∙ (ap (λ (w : List ℕ). front ++ (zs ++ w)) d
    ∙ (append_assoc (take at xs) ys (zs ++ drop (at + length (ys ++ zs)) xs)
    ∙ ap (λ (w : List ℕ). take at xs ++ w) (sym (append_assoc ys zs (drop (at + length (ys ++ zs)) xs))))))

-- one byte written as a list of one
pub placed_one : (xs : List ℕ) (i y : ℕ) → i < length xs → set xs i y ≡ placed xs i (y ∷ [])
unfolding placed
placed_one xs i y h =
    ap (λ (w : List ℕ). set w i y) (sym (take-append-drop i xs) ∙ ap (λ (w : List ℕ). take i xs ++ w) (drop_more xs i 0 h))
    ∙ set_at (take i xs) (get_or xs i 0) (drop (i + 1) xs) y i (length-take-le i xs (omega arith))

-- a byte at the front, a part after it, and another
module _ (xs : List ℕ) (k : ℕ) (us : List ℕ) (h : 1 + length us ≤ length xs) where
  pub byte_part : (ys : List ℕ) → ys ≡ placed (set xs 0 k) 1 us → ys ≡ placed xs 0 (k ∷ us)
  byte_part ys e =
      e ∙ (ap (λ (w : List ℕ). placed w 1 us) (placed_one xs 0 k (omega arith)) ∙ placed_more xs (k ∷ []) us 0 1 (omega arith) refl)

  pub byte_parts : (ys zs bs : List ℕ) (at : ℕ) → ys ≡ placed (set xs 0 k) 1 us → at ≡ 1 + length us → zs ≡ placed ys at bs → zs ≡ placed xs 0 (k ∷ (us ++ bs))
  byte_parts ys zs bs at e ea f =
      f ∙ (ap (λ (w : List ℕ). placed w at bs) (byte_part ys e) ∙ placed_more xs (k ∷ us) bs 0 at (omega arith) (omega arith))

-- numbers of four bytes each
pub length_fours : (ns : List ℕ) → length (fours ns) ≡ 4 * length ns
length_fours [] = refl
length_fours (n ∷ ns) = let h = length_fours ns in omega arith

fours_append : (ms ns : List ℕ) → fours (ms ++ ns) ≡ fours ms ++ fours ns
fours_append [] ns = refl
fours_append (m ∷ ms) ns = ap (λ (w : List ℕ). four m ++ w) (fours_append ms ns)

pub fours_more : (ns : List ℕ) (i : ℕ) → i < length ns → fours (take (i + 1) ns) ≡ fours (take i ns) ++ four (get_or ns i 0)
fours_more ns i h = ap fours (take_more ns i 0 h) ∙ fours_append (take i ns) (get_or ns i 0 ∷ [])

-- one number more behind those that were written from a place on
pub placed_number : (xs ys zs ns bs : List ℕ) (at b i : ℕ) → at + 4 * i + 4 ≤ length xs → i < length ns → ys ≡ placed xs at (fours (take i ns)) → b ≡ at + 4 * i → bs ≡ four (get_or ns i 0) → zs ≡ placed ys b bs →
    zs ≡ placed xs at (fours (take (i + 1) ns))
placed_number xs ys zs ns bs at b i h hi e eb es f =
    let l : length (fours (take i ns)) ≡ 4 * i = length_fours (take i ns) ∙ ap (λ (k : ℕ). 4 * k) (length-take-le i ns (omega arith)) in
    f ∙ (ap (λ (w : List ℕ). placed ys b w) es
    ∙ (ap (λ (w : List ℕ). placed w b (four (get_or ns i 0))) e
    ∙ (placed_more xs (fours (take i ns)) (four (get_or ns i 0)) at b (omega arith) (omega arith)
    ∙ ap (placed xs at) (sym (fours_more ns i hi)))))

-- one byte more of those that f gives, behind those that were written
pub filled_more : (f : ℕ → ℕ) (bs : List ℕ) (i y : ℕ) → i < length bs → y ≡ f i → take i bs ≡ map f (range_with_len 0 i) → take (i + 1) (set bs i y) ≡ map f (range_with_len 0 (i + 1))
filled_more f bs i y h q e = take_more_set bs i y h ∙ rw (q, e) (sym (map-range_with_len_more f 0 i i (omega arith)))

-- bytes that f gives, written into a part of others
pub filled_placed : (f : ℕ → ℕ) (xs bs : List ℕ) (at k n i : ℕ) → length bs ≡ n → n ≤ i → i ≤ n → k ≡ n → take i bs ≡ map f (range_with_len 0 i) → put_mid at k xs bs ≡ placed xs at (map f (range_with_len 0 n))
filled_placed f xs bs at k n i l g h ek e =
    let q : i ≡ n = omega arith in
    let w : bs ≡ map f (range_with_len 0 n) = sym (take_all i bs (omega arith)) ∙ (e ∙ ap (λ (j : ℕ). map f (range_with_len 0 j)) q) in
    mid_placed at k xs bs (map f (range_with_len 0 n)) w (ek ∙ (sym l ∙ ap length w))
