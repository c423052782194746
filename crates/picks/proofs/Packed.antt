-- Cells packed into bytes.
use Rattle.std.proofs.Common.{◌≡◌, ℕ, zero, suc, ◌+◌, ◌-◌, ◌*◌, ◌/◌, ◌%◌, ◌^◌, ◌<◌, ◌≤◌, min, Bool, true, false, eqb, List, [], ◌∷◌, map, ◌++◌, length, get_or, set, take, drop, replicate, reverse, sym, refl, ap, ◌∙◌, ap₂, inl, inr, add-zero, pow-suc, zero-add, arith, pow_mono}
use native.Mathlib.Nat.{pow-succ', div-div-eq-div-mul, zero-div}
use lib.Bits.{bit_and, bit_or}
use mathlib.Core.List.{map-append}
use Rattle.std.specs.List.{range_with_len, fold}
use Rattle.std.proofs.lemmas.Grind.{reverse_onto, get_or_default_zero}
use Rattle.std.proofs.lemmas.List.Sums.{fold-append}
use Rattle.std.proofs.lemmas.Nat.{or_shifted}
use Rattle.std.proofs.lemmas.Bool.{cases_lt, cases_eq, eq-eqb, ne_eqb}
use Rattle.std.proofs.lemmas.List.{get_or_past, get_or-map, get_or-reverse, get_or-replicate, get_or-take, get_or-drop, get_or-set_same, get_or-set_other, length-map, length-reverse, length-replicate, length-drop, length-append, length-set, get_or_append_left, take_min, drop_min, drop-drop, take-map, drop-map}
use Rattle.std.proofs.Math.Seq.{take-append_seam, drop-append_seam}
use Rattle.std.proofs.lemmas.Nat.{and_mask}
use Rattle.weave.specs.Rows.{pick}
use Rattle.weave.specs.Cloth.{Draft, lifts, shaft_of, treadle_of, warp_over}
use Rattle.weave.specs.Calls.{cells_of}
use Rattle.encoding.specs.Answers.{bit, bit_of, bits_in, octet, value}
use Rattle.picks.specs.Lifted.{Lifted}

-- a bit, as a number
bit_is : (y : ℕ) → pick (eqb (y % 2) 1) 1 0 ≡ y % 2
bit_is y =
    elim (cases_lt (y % 2) 1) [
      | inl h ↦ (let e : y % 2 ≡ 0 = omega arith in rw e)
      | inr h ↦ (let e : y % 2 ≡ 1 = omega arith in rw e)
    ]

pub last_bit : (x s : ℕ) → bit_and (x / 2 ^ s) 1 ≡ pick (bit x s) 1 0
last_bit x s = and_mask (x / 2 ^ s) 1 ∙ sym (bit_is (x / 2 ^ s))

pub value_lt : (bs : List Bool) → value bs < 2 ^ length bs
unfolding value
value_lt [] = omega arith
value_lt (true ∷ bs) = omega (arith, value_lt bs, pow-suc 2 (length bs))
value_lt (false ∷ bs) = omega (arith, value_lt bs, pow-suc 2 (length bs))

pub value_more : (b : Bool) (bs : List Bool) → value (b ∷ bs) ≡ pick b 1 0 + 2 * value bs
unfolding value
value_more b bs = refl

pub value_none : value [] ≡ 0
unfolding value
value_none = refl

pick_few : (b : Bool) → pick b 1 0 < 2
pick_few true = omega arith
pick_few false = omega arith

pub bit_value : (bs : List Bool) (j : ℕ) → bit (value bs) j ≡ get_or bs j false
unfolding value
bit_value [] j = ap (λ (x : ℕ). eqb (x % 2) 1) (zero-div (2 ^ j))
bit_value (true ∷ bs) zero = let e : (1 + 2 * value bs) / 1 % 2 ≡ 1 = omega arith in eq-eqb _ 1 e
bit_value (false ∷ bs) zero = let e : (0 + 2 * value bs) / 1 % 2 ≡ 0 = omega arith in ne_eqb _ 1 (omega arith)
bit_value (b ∷ bs) (suc j) =
    let x : ℕ = pick b 1 0 + 2 * value bs in
    let e : x / 2 ≡ value bs = omega (arith, pick_few b) in
    let f : x / 2 ^ suc j ≡ value bs / 2 ^ j = ap (λ (y : ℕ). x / y) (pow-succ' 2 j) ∙ (sym (div-div-eq-div-mul x 2 (2 ^ j)) ∙ ap (λ (y : ℕ). y / 2 ^ j) e) in
    ap (λ (y : ℕ). eqb (y % 2) 1) f ∙ bit_value bs j

pub no_bit : (j : ℕ) → bit 0 j ≡ false
unfolding value
no_bit j = bit_value [] j

pub fits_more : (b : Bool) (bs : List Bool) → length bs < 8 → pick b 1 0 + 2 * value bs < 2 ^ 8
fits_more b bs h = let p : 2 ^ suc (length bs) ≤ 2 ^ 8 = pow_mono h in omega (arith, value_lt (b ∷ bs), value_more b bs)

-- the bit of a shaft, as the code takes it
abbrev pub cell_bit : ℕ → ℕ → ℕ
cell_bit lifted s = bit_and (lifted / 2 ^ s) 1

-- cells are packed from the last on
pub folded : (lifted : ℕ) (xs : List ℕ) → length xs ≤ 8 → fold (λ (a x : ℕ). bit_or (a * 2 ^ 1 % 2 ^ 8) x) 0 (map (cell_bit lifted) (reverse xs)) ≡ value (map (bit lifted) xs)
folded lifted [] few = sym value_none
folded lifted (s ∷ xs) few =
    let step = λ (a x : ℕ). bit_or (a * 2 ^ 1 % 2 ^ 8) x in
    let rest : List ℕ = reverse xs in
    let v : ℕ = value (map (bit lifted) xs) in
    let e : fold step 0 (map (cell_bit lifted) rest) ≡ v = folded lifted xs (omega arith) in
    let small : pick (bit lifted s) 1 0 + 2 * v < 2 ^ 8 = fits_more (bit lifted s) (map (bit lifted) xs) (omega (arith, length-map xs (bit lifted))) in
    let w : v * 2 ^ 1 % 2 ^ 8 ≡ v * 2 ^ 1 = omega arith in
    rw (reverse_onto xs s [], map-append, fold-append, e, w)
    (let b : cell_bit lifted s ≡ pick (bit lifted s) 1 0 = last_bit lifted s in
    or_shifted v 1 (cell_bit lifted s) (omega (arith, pick_few (bit lifted s))) ∙ omega (arith, value_more (bit lifted s) (map (bit lifted) xs)))

-- a number of the list turned round is one of the list
pub in_reverse : (n : ℕ) (xs : List ℕ) → ((k : ℕ) → k < length xs → get_or xs k 0 < n) → (x k : ℕ) → k < length (reverse xs) → x ≡ get_or (reverse xs) k x → x < n
in_reverse n xs all x k h e =
    let l : k < length xs = omega (arith, length-reverse xs) in
    let f : x ≡ get_or xs (length xs - 1 - k) 0 = e ∙ get_or-reverse xs k x l ∙ get_or_default_zero xs (length xs - 1 - k) x (omega arith) in
    rw f (all (length xs - 1 - k) (omega arith))

-- the first k bytes are packed, and ahead are the numbers that are not
pub record Packing (f : ℕ → Bool) (xs ahead ws : List ℕ) (k : ℕ) : Type 0 where
  pub left : ahead ≡ drop (8 * k) xs
  pub room : length ws ≡ 128
  pub packed : (j : ℕ) → j < k → get_or ws j 0 ≡ octet (map f xs) j
  pub bare : (j : ℕ) → k ≤ j → get_or ws j 0 ≡ 0

all_bare : (n j : ℕ) → get_or {A = ℕ} (replicate n 0) j 0 ≡ 0
all_bare n j = elim (cases_lt j n) [ inl h ↦ get_or-replicate n j 0 0 h | inr h ↦ get_or_past (replicate n 0) j 0 (omega (arith, length-replicate {A = ℕ} n 0)) ]

bit_octet : (bs : List Bool) (i : ℕ) → bit (octet bs (i / 8)) (i % 8) ≡ get_or bs i false
bit_octet bs i =
    bit_value (take 8 (drop (8 * (i / 8)) bs)) (i % 8)
    ∙ (get_or-take 8 (drop (8 * (i / 8)) bs) (i % 8) false (omega arith)
    ∙ (get_or-drop (8 * (i / 8)) bs (i % 8) false ∙ ap (λ (j : ℕ). get_or bs j false) (omega arith)))

module _ (f : ℕ → Bool) (xs : List ℕ) where
  pub packing_starts : Packing f xs xs (replicate 128 0) 0
  packing_starts = record { left = refl; room = refl; packed = λ j h. absurd (omega arith); bare = λ j h. all_bare 128 j }

  module _ {ahead ws : List ℕ} {k : ℕ} (so_far : Packing f xs ahead ws k) where
    ahead_long : length ahead ≡ length xs - 8 * k
    ahead_long = ap length so_far.left ∙ length-drop (8 * k) xs

    pub packing_within : 0 < length ahead → length xs ≤ 1024 → k < 128
    packing_within some few = omega (arith, ahead_long)

    pub chunk_within : (n : ℕ) → ((i : ℕ) → i < length xs → get_or xs i 0 < n) → (part rest : List ℕ) → ahead ≡ part ++ rest → (i : ℕ) → i < length part → get_or part i 0 < n
    chunk_within n all part rest split i h =
        let e : get_or part i 0 ≡ get_or xs (8 * k + i) 0 = sym (get_or_append_left part rest 0 i h) ∙ ap (λ (ys : List ℕ). get_or ys i 0) (sym split ∙ so_far.left) ∙ get_or-drop (8 * k) xs i 0 in
        rw e (all (8 * k + i) (omega (arith, ahead_long, ap length split, length-append part rest)))

    -- eight more
    pub packing_more : (part rest : List ℕ) (v : ℕ) → ahead ≡ part ++ rest → length part ≡ min 8 (length ahead) → k < 128 → v ≡ value (map f part) → Packing f xs rest (set ws k v) (k + 1)
    packing_more part rest v split many few is =
        let whole : part ≡ take 8 (drop (8 * k) xs) = sym (take-append_seam part rest) ∙ ap₂ (λ (n : ℕ) (ys : List ℕ). take n ys) many (sym split) ∙ take_min 8 ahead ∙ ap (take 8) so_far.left in
        let after : rest ≡ drop 8 (drop (8 * k) xs) = sym (drop-append_seam part rest) ∙ ap₂ (λ (n : ℕ) (ys : List ℕ). drop n ys) many (sym split) ∙ drop_min 8 ahead ∙ ap (drop 8) so_far.left in
        let next : 8 * k + 8 ≡ 8 * (k + 1) = omega arith in
        record {
          left = after ∙ drop-drop 8 (8 * k) xs ∙ ap (λ (n : ℕ). drop n xs) next;
          room = length-set ws k v ∙ so_far.room;
          packed = λ j h.
              elim (cases_eq j k) [
                | inl e ↦
                    rw e
                    (get_or-set_same ws k v 0 (omega (arith, so_far.room)) ∙ is ∙ ap (λ (ys : List ℕ). value (map f ys)) whole
                    ∙ ap value (sym (take-map f 8 (drop (8 * k) xs)) ∙ ap (take 8) (sym (drop-map f (8 * k) xs))))
                | inr e ↦ get_or-set_other ws k j v 0 e ∙ so_far.packed j (omega arith)
              ];
          bare = λ j h. get_or-set_other ws k j v 0 (λ e. omega arith) ∙ so_far.bare j (omega arith);
        }

    pub packing_ends : length ahead ≡ 0 → (i : ℕ) → bit_of ws i ≡ get_or (map f xs) i false
    packing_ends none i =
        elim (cases_lt (i / 8) k) [
          | inl h ↦ ap (λ (x : ℕ). bit x (i % 8)) (so_far.packed (i / 8) h) ∙ bit_octet (map f xs) i
          | inr h ↦
              ap (λ (x : ℕ). bit x (i % 8)) (so_far.bare (i / 8) h)
              ∙ (no_bit (i % 8) ∙ sym (get_or_past (map f xs) i false (omega (arith, ahead_long, length-map xs f))))
        ]

-- cells one by one
pub cells_each : (f : ℕ → Bool) (d : Draft) (p c a n : ℕ) → ((i : ℕ) → i < n → f (a + i) ≡ warp_over d p (c + i)) → map f (range_with_len a n) ≡ cells_of d p c n
unfolding cells_of
cells_each f d p c a zero h = refl
cells_each f d p c a (suc n) h =
    ap₂ ◌∷◌ (ap f (sym (add-zero a)) ∙ (h 0 (omega arith) ∙ ap (λ (x : ℕ). warp_over d p x) (add-zero c)))
    (cells_each f d p (suc c) (a + 1) n (λ i k. ap f (omega arith) ∙ (h (suc i) (omega arith) ∙ ap (λ (x : ℕ). warp_over d p x) (omega arith))))

-- the shafts of some ends are packed as the cells of these ends
pub part_cells : (bs xs : List ℕ) (lifted : ℕ) (d : Draft) (p c n : ℕ) → length xs ≡ n
    → ((i : ℕ) → bit_of bs i ≡ get_or (map (bit lifted) xs) i false) → ((k : ℕ) → k < length xs → get_or xs k 0 ≡ shaft_of d (c + k)) → ((k : ℕ) → k < length xs → get_or xs k 0 < 64)
    → Lifted lifted d.tied (treadle_of d p) → bits_in bs n ≡ cells_of d p c n
unfolding bits_in
part_cells bs xs lifted d p c n l bits along few lift =
    cells_each (bit_of bs) d p c 0 n
    (λ i h.
    let k : i < length xs = omega arith in
    ap (bit_of bs) (zero-add i)
    ∙ (bits i
    ∙ (get_or-map (bit lifted) xs i 0 false k
    ∙ (lift (get_or xs i 0) (few i k)
    ∙ ap (λ (s : ℕ). lifts d.tied (treadle_of d p) s) (along i k)))))
