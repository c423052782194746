-- Notes: sets by their members, what stands in a note that was begun or filled, that it fits 64 bits, and that what it tells of a row is true.
use Rattle.std.proofs.Common.{◌≡◌, ℕ, zero, suc, ◌+◌, ◌*◌, ◌^◌, ◌<◌, ◌≤◌, Bool, true, false, ◌&&◌, ◌||◌, eqb, ltb, ◌≢◌, List, length, get_or, set, replicate, Some, None, Option, sym, refl, ap, ◌∙◌, ap₂, inl, inr, one-mul, pow-suc, add-one, arith}
use mathlib.Core.Bool.{or-false}
use lib.Bits.{bit_or, or_shifted_r}
use Rattle.std.proofs.lemmas.Nat.{or_lt, pow_below}
use Rattle.std.proofs.lemmas.List.{length-set, get_or-set_same, get_or-set_other, set_past}
use Rattle.std.proofs.lemmas.Bool.{cases_Bool, cases_eq, cases_lt, and_parts, and_from, and_right, eqb-true, ne_eqb, ltb-true, lt-ltb, le-ltb, true≢false}
use Rattle.weave.specs.Rows.{pick, Row, written, long, below}
use Rattle.weave.specs.Cloth.{among}
use Rattle.weave.proofs.Rows.{length_written, long_some}
use Rattle.weave.proofs.Cloth.{used_below}
use Rattle.weave.proofs.Runs.{longest_round, round_told}
use Rattle.rows.specs.Words.{Small}
use Rattle.lent.specs.Bits.{bit}
use Rattle.lent.proofs.Bits.{bit_past}
use Rattle.sets.proofs.Members.{bit_none, bit-bit_or, bit_power, same_set}
use Rattle.notes.specs.Notes.{note_words, of_at, used_at, filled_at, set_at, length_at, side_number, set_of, used_set, Known, Tells, tells, begun, place_of, recalled, filled, all_filled}
use Rattle.notes.specs.declared.Side.{Side}
use Rattle.notes.specs.declared.Side.TheVariants.{Face, Back}
use Rattle.sets.proofs.Gathered.{gathered_none, gathered_taken, gathered_passed}

-- the numbers below m that pass, as a set
pub set_below : (m : ℕ) (f : ℕ → Bool) → set_of m f < 2 ^ m
unfolding set_of
set_below zero f = omega arith
set_below (suc m) f = elim (cases_Bool (f m)) [
  | inl e ↦ rw e (omega (arith, set_below m f, pow-suc 2 m))
  | inr e ↦ rw e (omega (arith, set_below m f, pow-suc 2 m))
]

-- one number more, above all of a set
bit_above : (m x : ℕ) (f : ℕ → Bool) (n : ℕ) → x < 2 ^ m → bit x n ≡ (ltb n m && f n) → bit (x + pick (f m) (2 ^ m) 0) n ≡ (ltb n (suc m) && f n)
bit_above m x f n h same = elim (cases_Bool (f m)) [ inl e ↦ rw e (taken e) | inr e ↦ rw e (passed e) ]
  where
    joined : x + 2 ^ m ≡ bit_or x (1 * 2 ^ m)
    joined = sym (or_shifted_r 1 m x h ∙ omega arith)

    taken : f m ≡ true → bit (x + 2 ^ m) n ≡ (ltb n (suc m) && f n)
    taken e =
        ap (λ (y : ℕ). bit y n) joined ∙ bit-bit_or x (1 * 2 ^ m) n ∙ ap₂ ◌||◌ same (bit_power m n) ∙ gathered_taken f m n e ∙ ap (λ (k : ℕ). ltb n k && f n) (add-one m)

    passed : f m ≡ false → bit (x + 0) n ≡ (ltb n (suc m) && f n)
    passed e = let z : x + 0 ≡ x = omega arith in ap (λ (y : ℕ). bit y n) z ∙ same ∙ gathered_passed f m n e ∙ ap (λ (k : ℕ). ltb n k && f n) (add-one m)

pub bit_set : (m : ℕ) (f : ℕ → Bool) (n : ℕ) → bit (set_of m f) n ≡ (ltb n m && f n)
unfolding set_of
bit_set zero f n = bit_none n ∙ sym (gathered_none f n)
bit_set (suc m) f n = bit_above m (set_of m f) f n (set_below m f) (bit_set m f n)

-- a number with just these members is that set
pub set_is : (m x : ℕ) (f : ℕ → Bool) → ((n : ℕ) → bit x n ≡ (ltb n m && f n)) → x ≡ set_of m f
set_is m x f same = same_set x (set_of m f) (λ n. same n ∙ sym (bit_set m f n))

-- the numbers that a row uses
pub used_bits : (r : Row) → below 64 r ≡ true → (n : ℕ) → bit (used_set r) n ≡ among n (written r)
used_bits r b n =
    bit_set 64 (λ n. among n (written r)) n
    ∙ elim (cases_Bool (among n (written r))) [
      | inl e ↦ and_from (ltb n 64) (among n (written r)) (lt-ltb n 64 (used_below 64 r n b e)) e ∙ sym e
      | inr e ↦ and_right (ltb n 64) (among n (written r)) e ∙ sym e
    ]

pub used_is : (r : Row) (x : ℕ) → below 64 r ≡ true → ((n : ℕ) → bit x n ≡ among n (written r)) → x ≡ used_set r
used_is r x b same = same_set x (used_set r) (λ n. same n ∙ sym (used_bits r b n))

-- the place of a used line's set is one of the 64
pub member_below : (k x n : ℕ) → x < 2 ^ k → bit x n ≡ true → n < k
member_below k x n h e = elim (cases_lt n k) [ inl l ↦ l | inr l ↦ absurd (true≢false (sym e ∙ bit_past k x n h l)) ]

pub place_below : (lines line x : ℕ) → lines < 2 ^ 64 → bit lines line ≡ true → place_of lines line x < 64
place_below lines line x h e =
    elim (cases_lt lines 16) [
      | inl l ↦ rw (lt-ltb lines 16 l) (omega (arith, member_below 4 lines line l e))
      | inr l ↦
          rw (le-ltb lines 16 l)
          (elim (cases_lt lines 256) [
            | inl m ↦ rw (lt-ltb lines 256 m) (omega (arith, member_below 8 lines line m e))
            | inr m ↦
                rw (le-ltb lines 256 m)
                (elim (cases_lt lines 65536) [
                  | inl k ↦ rw (lt-ltb lines 65536 k) (omega (arith, member_below 16 lines line k e))
                  | inr k ↦ rw (le-ltb lines 65536 k) (member_below 64 lines line h e)
                ])
          ])
    ]

-- one word written: all fit if they did
set_fits : (ws : List ℕ) (j v b : ℕ) → v < b → ((i : ℕ) → get_or ws i 0 < b) → (i : ℕ) → get_or (set ws j v) i 0 < b
set_fits ws j v b h fit i =
    elim (cases_eq i j) [
      | inr o ↦ rw (get_or-set_other ws j i v 0 o) (fit i)
      | inl o ↦
          elim (cases_lt j (length ws)) [
            | inl l ↦ rw (o, get_or-set_same ws j v 0 l) h
            | inr l ↦ rw (set_past ws j v l) (fit i)
          ]
    ]

-- three words written, and all others
module _ (ws : List ℕ) (i j k u x n : ℕ) (p : i < j) (q : j < k) (h : k < length ws) where
  at_first : get_or (set (set (set ws i u) j x) k n) i 0 ≡ u
  at_first = get_or-set_other (set (set ws i u) j x) k i n 0 (λ e. omega arith) ∙ get_or-set_other (set ws i u) j i x 0 (λ e. omega arith) ∙ get_or-set_same ws i u 0 (omega arith)

  at_second : get_or (set (set (set ws i u) j x) k n) j 0 ≡ x
  at_second = get_or-set_other (set (set ws i u) j x) k j n 0 (λ e. omega arith) ∙ get_or-set_same (set ws i u) j x 0 (simp length-set (omega arith))

  at_third : get_or (set (set (set ws i u) j x) k n) k 0 ≡ n
  at_third = get_or-set_same (set (set ws i u) j x) k n 0 (simp length-set (omega arith))

  at_other : (m : ℕ) → m ≢ i → m ≢ j → m ≢ k → get_or (set (set (set ws i u) j x) k n) m 0 ≡ get_or ws m 0
  at_other m a b c = get_or-set_other (set (set ws i u) j x) k m n 0 c ∙ get_or-set_other (set ws i u) j m x 0 b ∙ get_or-set_other ws i m u 0 a

-- a note that is begun
pub begun_long : (k u : ℕ) (ws : List ℕ) → length (begun k u ws) ≡ length ws
unfolding begun
begun_long k u ws = elim (cases_Bool (tells k ws)) [ inl e ↦ rw e | inr e ↦ rw e (simp length-set) ]

pub begun_fits : (k u : ℕ) (ws : List ℕ) → k < 18446744073709551616 → u < 18446744073709551616 → ((i : ℕ) → get_or ws i 0 < 18446744073709551616)
    → (i : ℕ) → get_or (begun k u ws) i 0 < 18446744073709551616
unfolding begun
begun_fits k u ws h l fit = elim (cases_Bool (tells k ws)) [ inl e ↦ rw e fit | inr e ↦ rw e (anew 18446744073709551616 h l (omega arith) fit) ]
  where
    anew : (b : ℕ) → k < b → u < b → 0 < b → ((i : ℕ) → get_or ws i 0 < b) → (i : ℕ) → get_or (set (set (set (set ws 0 k) 1 u) 2 0) 3 0) i 0 < b
    anew b p q z f = set_fits (set (set (set ws 0 k) 1 u) 2 0) 3 0 b z (set_fits (set (set ws 0 k) 1 u) 2 0 b z (set_fits (set ws 0 k) 1 u b q (set_fits ws 0 k b p f)))

-- and what it tells, which is nothing where it was begun anew
module _ (k u : ℕ) (r : Row) (ws : List ℕ) (is : u ≡ used_set r) (h : 3 < length (set ws 0 k)) where
  none_filled : (s : Side) → get_or (set (set (set (set ws 0 k) 1 u) 2 0) 3 0) (filled_at s) 0 ≡ 0
  none_filled Face = at_second (set ws 0 k) 1 2 3 u 0 0 (omega arith) (omega arith) h
  none_filled Back = at_third (set ws 0 k) 1 2 3 u 0 0 (omega arith) (omega arith) h

  anew_known : Known r (set (set (set (set ws 0 k) 1 u) 2 0) 3 0)
  anew_known =
      record {
        used = at_first (set ws 0 k) 1 2 3 u 0 0 (omega arith) (omega arith) h ∙ is;
        lengths = λ s p l e. absurd (true≢false (sym e ∙ ap (λ (x : ℕ). bit x p) (none_filled s) ∙ bit_none p));
      }

pub begun_known : (k : ℕ) (r : Row) (ws : List ℕ) → length ws ≡ note_words → Tells k r ws → Known r (begun k (used_set r) ws)
unfolding begun
begun_known k r ws long told =
    elim (cases_Bool (tells k ws)) [
      | inl e ↦ let p = and_parts (eqb (get_or ws 0 0) k) (ltb 0 (get_or ws 1 0)) e in rw e (told (eqb-true (get_or ws 0 0) k p.0) (ltb-true 0 (get_or ws 1 0) p.1))
      | inr e ↦ rw e (anew_known k (used_set r) r ws refl (simp length-set (omega arith)))
    ]

pub new_known : (k u : ℕ) (r : Row) → u ≡ used_set r → Known r (begun k u (replicate 260 0))
new_known k u r is = rw is (begun_known k r (replicate 260 0) refl (λ e l. absurd (omega arith)))

-- a note with no numbers tells nothing
pub forgotten_tells : (k : ℕ) (r : Row) (ws : List ℕ) → 1 < length ws → Tells k r (set ws used_at 0)
forgotten_tells k r ws h = λ e l. absurd (omega (arith, get_or-set_same ws 1 0 0 h))

-- a place that is filled
side_few : (s : Side) → side_number s < 2
side_few Face = omega arith
side_few Back = omega arith

filled_long : (s : Side) (p x n : ℕ) (ws : List ℕ) → length (filled s p x n ws) ≡ length ws
filled_long s p x n ws = simp length-set

power_fits : (p : ℕ) → p < 64 → 2 ^ p < 18446744073709551616
power_fits p h = pow_below p 64 h

filled_fits : (s : Side) (p x n : ℕ) (ws : List ℕ) → p < 64 → x < 18446744073709551616 → n < 18446744073709551616 → ((i : ℕ) → get_or ws i 0 < 18446744073709551616)
    → (i : ℕ) → get_or (filled s p x n ws) i 0 < 18446744073709551616
filled_fits s p x n ws h k l fit =
    let one : List ℕ = set ws (filled_at s) (bit_or (get_or ws (filled_at s) 0) (2 ^ p)) in
    set_fits (set one (set_at s p) x) (length_at s p) n 18446744073709551616 l
    (set_fits one (set_at s p) x 18446744073709551616 k
    (set_fits ws (filled_at s) (bit_or (get_or ws (filled_at s) 0) (2 ^ p)) 18446744073709551616 (or_lt 64 (get_or ws (filled_at s) 0) (2 ^ p) (fit (filled_at s)) (power_fits p h)) fit))

module _ (s : Side) (p x n : ℕ) (r : Row) (ws : List ℕ) (whole : length ws ≡ note_words) (h : p < 64) (is : n ≡ longest_round (bit x) (written r)) (known : Known r ws) where
  few : side_number s < 2
  few = side_few s

  other : (m : ℕ) → m ≢ filled_at s → m ≢ set_at s p → m ≢ length_at s p → get_or (filled s p x n ws) m 0 ≡ get_or ws m 0
  other = at_other ws (filled_at s) (set_at s p) (length_at s p) (bit_or (get_or ws (filled_at s) 0) (2 ^ p)) x n (omega arith) (omega arith) (omega (arith, few))

  at_word : get_or (filled s p x n ws) (filled_at s) 0 ≡ bit_or (get_or ws (filled_at s) 0) (2 ^ p)
  at_word = at_first ws (filled_at s) (set_at s p) (length_at s p) (bit_or (get_or ws (filled_at s) 0) (2 ^ p)) x n (omega arith) (omega arith) (omega (arith, few))

  at_set : get_or (filled s p x n ws) (set_at s p) 0 ≡ x
  at_set = at_second ws (filled_at s) (set_at s p) (length_at s p) (bit_or (get_or ws (filled_at s) 0) (2 ^ p)) x n (omega arith) (omega arith) (omega (arith, few))

  at_length : get_or (filled s p x n ws) (length_at s p) 0 ≡ n
  at_length = at_third ws (filled_at s) (set_at s p) (length_at s p) (bit_or (get_or ws (filled_at s) 0) (2 ^ p)) x n (omega arith) (omega arith) (omega (arith, few))

  -- another place that is filled was so before
  filled_before : (t : Side) (q : ℕ) → q < 64 → set_at t q ≢ set_at s p → bit (get_or (filled s p x n ws) (filled_at t) 0) q ≡ true → bit (get_or ws (filled_at t) 0) q ≡ true
  filled_before t q l o e =
      elim (cases_eq (filled_at t) (filled_at s)) [
        | inl i ↦
            let v : ℕ = get_or ws (filled_at t) 0 in
            let w : get_or (filled s p x n ws) (filled_at t) 0 ≡ bit_or v (1 * 2 ^ p) =
            ap (λ (m : ℕ). get_or (filled s p x n ws) m 0) i ∙ at_word ∙ ap₂ bit_or (ap (λ (m : ℕ). get_or ws m 0) (sym i)) (sym (one-mul (2 ^ p))) in
            sym (ap (λ (y : ℕ). bit y q) w ∙ bit-bit_or v (1 * 2 ^ p) q ∙ ap (λ (t : Bool). bit v q || t) (bit_power p q ∙ ne_eqb q p (λ z. o (omega arith))) ∙ or-false (bit v q)) ∙ e
        | inr i ↦ ap (λ (y : ℕ). bit y q) (sym (other (filled_at t) i (λ z. omega (arith, side_few t)) (λ z. omega (arith, side_few t)))) ∙ e
      ]

  filled_known : Known r (filled s p x n ws)
  filled_known =
      record {
        used = other used_at (λ z. omega arith) (λ z. omega arith) (λ z. omega arith) ∙ known.used;
        lengths = λ t q l e. elim (cases_eq (set_at t q) (set_at s p)) [
          | inl o ↦
              let o' : length_at t q ≡ length_at s p = omega arith in
              ap (λ (m : ℕ). get_or (filled s p x n ws) m 0) o' ∙ at_length ∙ is
              ∙ sym (ap (λ (y : ℕ). longest_round (bit y) (written r)) (ap (λ (m : ℕ). get_or (filled s p x n ws) m 0) o ∙ at_set))
          | inr o ↦
              let k = side_few t in
              other (length_at t q) (λ z. omega (arith, few)) (λ z. omega (arith, few)) (λ z. o (omega arith))
              ∙ known.lengths t q l (filled_before t q l o e)
              ∙ sym (ap (λ (y : ℕ). longest_round (bit y) (written r)) (other (set_at t q) (λ z. omega (arith, few)) o (λ z. omega (arith, few))))
        ];
      }

-- the places of all used lines
pub all_filled_long : (s : Side) (lines : ℕ) (f g : ℕ → ℕ) (n : ℕ) (ws : List ℕ) → length (all_filled s lines f g n ws) ≡ length ws
unfolding all_filled
all_filled_long s lines f g zero ws = refl
all_filled_long s lines f g (suc n) ws =
    elim (cases_Bool (bit lines n)) [
      | inl e ↦ rw e (filled_long s (place_of lines n (f n)) (f n) (g n) (all_filled s lines f g n ws) ∙ all_filled_long s lines f g n ws)
      | inr e ↦ rw e (all_filled_long s lines f g n ws)
    ]

module _ (s : Side) (lines : ℕ) (f g : ℕ → ℕ) (n : ℕ) (ws : List ℕ) where
  pub all_filled_none : all_filled s lines f g 0 ws ≡ ws
  unfolding all_filled
  all_filled_none = refl

  pub all_filled_taken : bit lines n ≡ true → all_filled s lines f g (n + 1) ws ≡ filled s (place_of lines n (f n)) (f n) (g n) (all_filled s lines f g n ws)
  unfolding all_filled
  all_filled_taken e = rw (add-one n, e)

  pub all_filled_passed : bit lines n ≡ false → all_filled s lines f g (n + 1) ws ≡ all_filled s lines f g n ws
  unfolding all_filled
  all_filled_passed e = rw (add-one n, e)

pub all_filled_fits : (s : Side) (lines : ℕ) (f g : ℕ → ℕ) (n : ℕ) (ws : List ℕ) → lines < 18446744073709551616
    → ((i : ℕ) → f i < 18446744073709551616) → ((i : ℕ) → g i < 18446744073709551616)
    → ((i : ℕ) → get_or ws i 0 < 18446744073709551616) → (i : ℕ) → get_or (all_filled s lines f g n ws) i 0 < 18446744073709551616
unfolding all_filled
all_filled_fits s lines f g zero ws h hf hg fit = fit
all_filled_fits s lines f g (suc n) ws h hf hg fit =
    elim (cases_Bool (bit lines n)) [
      | inl e ↦
          rw e
          (filled_fits s (place_of lines n (f n)) (f n) (g n) (all_filled s lines f g n ws) (place_below lines n (f n) h e) (hf n) (hg n) (all_filled_fits s lines f g n ws h hf hg fit))
      | inr e ↦ rw e (all_filled_fits s lines f g n ws h hf hg fit)
    ]

pub all_filled_known : (s : Side) (lines : ℕ) (f g : ℕ → ℕ) (n : ℕ) (r : Row) (ws : List ℕ) → length ws ≡ note_words → lines < 2 ^ 64
    → ((i : ℕ) → bit lines i ≡ true → g i ≡ longest_round (bit (f i)) (written r)) → Known r ws → Known r (all_filled s lines f g n ws)
unfolding all_filled
all_filled_known s lines f g zero r ws long h so known = known
all_filled_known s lines f g (suc n) r ws long h so known =
    elim (cases_Bool (bit lines n)) [
      | inl e ↦
          rw e
          (filled_known s (place_of lines n (f n)) (f n) (g n) r (all_filled s lines f g n ws) (all_filled_long s lines f g n ws ∙ long) (place_below lines n (f n) h e) (so n e)
          (all_filled_known s lines f g n r ws long h so known))
      | inr e ↦ rw e (all_filled_known s lines f g n r ws long h so known)
    ]

pub all_filled_same : (s : Side) (lines : ℕ) (f f' g g' : ℕ → ℕ) (n : ℕ) (ws : List ℕ)
    → ((i : ℕ) → bit lines i ≡ true → f i ≡ f' i) → ((i : ℕ) → bit lines i ≡ true → g i ≡ g' i) → all_filled s lines f g n ws ≡ all_filled s lines f' g' n ws
unfolding all_filled
all_filled_same s lines f f' g g' zero ws hf hg = refl
all_filled_same s lines f f' g g' (suc n) ws hf hg =
    elim (cases_Bool (bit lines n)) [
      | inl e ↦ rw (e, hf n e, hg n e, all_filled_same s lines f f' g g' n ws hf hg)
      | inr e ↦ rw (e, all_filled_same s lines f f' g g' n ws hf hg)
    ]

-- what is noted is no longer than a row can be
pub noted_short : (s : Side) (p : ℕ) (r : Row) (ws : List ℕ) → Small r → Known r ws → p < 64 → bit (get_or ws (filled_at s) 0) p ≡ true → get_or ws (length_at s p) 0 ≤ 16777216
noted_short s p r ws small known h e =
    let some : 0 < long r = long_some r small.some in
    omega (arith, known.lengths s p h e, (round_told (bit (get_or ws (set_at s p) 0)) (written r) (rw (length_written r) some)).0, length_written r, small.short)

-- what is recalled is true
pub recalled_true : (s : Side) (p x y : ℕ) (r : Row) (ws : List ℕ) → Known r ws → p < 64 → recalled s p x ws ≡ Some y → y ≡ longest_round (bit x) (written r)
recalled_true s p x y r ws known h e =
    elim (cases_Bool (bit (get_or ws (filled_at s) 0) p && eqb (get_or ws (set_at s p) 0) x)) [
      | inl t ↦
          let both = and_parts (bit (get_or ws (filled_at s) 0) p) (eqb (get_or ws (set_at s p) 0) x) t in
          let found : ◌≡◌ {A = Option ℕ} (Some (get_or ws (length_at s p) 0)) (Some y) = rw t at e in
          let is : y ≡ get_or ws (length_at s p) 0 = cc in
          is ∙ known.lengths s p h both.0 ∙ ap (λ (z : ℕ). longest_round (bit z) (written r)) (eqb-true (get_or ws (set_at s p) 0) x both.1)
      | inr t ↦
          let none : ◌≡◌ {A = Option ℕ} None (Some y) = rw t at e in
          let z : ◌≡◌ {A = ℕ} 0 1 = cc in
          absurd (omega arith)
    ]

-- of which slot's row a note tells
pub begun_of : (k u : ℕ) (ws : List ℕ) → 0 < length ws → get_or (begun k u ws) of_at 0 ≡ k
unfolding begun
begun_of k u ws some =
    elim (cases_Bool (tells k ws)) [
      | inl e ↦ rw e (eqb-true (get_or ws of_at 0) k (and_parts (eqb (get_or ws of_at 0) k) (ltb 0 (get_or ws used_at 0)) e).0)
      | inr e ↦
          let a = set ws of_at k in
          let b = set a used_at u in
          let c = set b (filled_at Face) 0 in
          rw e (get_or-set_other c (filled_at Back) of_at 0 0 (λ z. omega arith)
          ∙ get_or-set_other b (filled_at Face) of_at 0 0 (λ z. omega arith)
          ∙ get_or-set_other a used_at of_at u 0 (λ z. omega arith)
          ∙ get_or-set_same ws of_at k 0 some)
    ]

filled_of : (s : Side) (p x n : ℕ) (ws : List ℕ) → get_or (filled s p x n ws) of_at 0 ≡ get_or ws of_at 0
filled_of s p x n ws =
    let a = set ws (filled_at s) (bit_or (get_or ws (filled_at s) 0) (2 ^ p)) in
    let b = set a (set_at s p) x in
    get_or-set_other b (length_at s p) of_at n 0 (λ z. omega arith)
    ∙ get_or-set_other a (set_at s p) of_at x 0 (λ z. omega arith)
    ∙ get_or-set_other ws (filled_at s) of_at (bit_or (get_or ws (filled_at s) 0) (2 ^ p)) 0 (λ z. omega arith)

pub all_filled_of : (s : Side) (lines : ℕ) (f g : ℕ → ℕ) (n : ℕ) (ws : List ℕ) → get_or (all_filled s lines f g n ws) of_at 0 ≡ get_or ws of_at 0
unfolding all_filled
all_filled_of s lines f g zero ws = refl
all_filled_of s lines f g (suc n) ws =
    let before = all_filled s lines f g n ws in
    elim (cases_Bool (bit lines n)) [
      | inl e ↦ rw e (filled_of s (place_of lines n (f n)) (f n) (g n) before ∙ all_filled_of s lines f g n ws)
      | inr e ↦ rw e (all_filled_of s lines f g n ws)
    ]
