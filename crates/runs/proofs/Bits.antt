-- Runs of numbers that go up by one, found by taking the last number of every run away again and again.
use Rattle.std.proofs.Common.{◌≡◌, ℕ, zero, suc, ◌+◌, ◌-◌, ◌/◌, ◌%◌, ◌^◌, ◌<◌, ◌≤◌, max, Bool, true, false, ◌&&◌, eqb, ltb, leb, List, [], ◌∷◌, ◌++◌, length, sym, refl, ap, ◌∙◌, ap₂, inl, inr, add-zero, add-suc, pow-suc, zero-add, add-one, one-add, arith}
use mathlib.Core.Path.{fun_ext}
use mathlib.Core.Bool.{and-true}
use lib.Bits.{bit_and}
use Rattle.std.proofs.lemmas.Nat.{pow_pos, leading_top, le-div, div_below, and_mask}
use Rattle.std.proofs.lemmas.Bool.{cases_Bool, cases_eq, cases_lt, and_parts, le-leb, lt-leb, leb-true, lt-ltb, le-ltb, ltb-true, eq-eqb, ne_eqb, true≢false}
use Rattle.weave.specs.Rows.{pick, run, reversed, up, down, written}
use Rattle.weave.specs.Cloth.{among}
use Rattle.weave.proofs.Rows.{length_up, reversed_append}
use Rattle.weave.proofs.Longest.{best_most}
use Rattle.weave.proofs.Runs.{front, back, longest, all, rotated, longest_round, all_one, back_one, back_append, front_le, back_le, front_all, longest_le}
use Rattle.lent.specs.Bits.{bit}
use Rattle.sets.proofs.Members.{bit_none, bit-bit_and, bit_shr, below_power}
use Rattle.sets.proofs.Numbers.{among_run}
use Rattle.runs.specs.Found.{pieces, runs_of}
use Rattle.runs.specs.declared.Runs.TheVariants.{Whole}

-- numbers that go up, from the first and from the last
up_last : (n a : ℕ) → up (suc n) a ≡ up n a ++ ((a + n) ∷ [])
unfolding up
up_last zero a = ap (λ (k : ℕ). k ∷ []) (sym (add-zero a))
up_last (suc n) a = ap (λ (xs : List ℕ). a ∷ xs) (up_last n (suc a) ∙ ap (λ (k : ℕ). up n (suc a) ++ (k ∷ [])) (omega arith))

module _ (f : ℕ → Bool) where
  front_up : (n a : ℕ) → front f (up (suc n) a) ≡ pick (f a) (suc (front f (up n (suc a)))) 0
  unfolding up front
  front_up n a = refl

  longest_up : (n a : ℕ) → longest f (up (suc n) a) ≡ max (front f (up (suc n) a)) (longest f (up n (suc a)))
  unfolding up longest
  longest_up n a = refl

  back_up : (n a : ℕ) → back f (up (suc n) a) ≡ pick (f (a + n)) (suc (back f (up n a))) 0
  back_up n a =
      ap (back f) (up_last n a) ∙ back_append f (up n a) ((a + n) ∷ []) ∙ rw (all_one f (a + n), back_one f (a + n))
      (elim (cases_Bool (f (a + n))) [ inl e ↦ rw e (one-add (back f (up n a))) | inr e ↦ rw e ])

  nothing : (a : ℕ) → (front f (up 0 a) ≡ 0) × (back f (up 0 a) ≡ 0) × (longest f (up 0 a) ≡ 0)
  unfolding up front longest reversed
  nothing a = (refl, refl, refl)

  -- some number is in the set
  pub some_run : (n a i : ℕ) → a ≤ i → i < a + n → f i ≡ true → 1 ≤ longest f (up n a)
  some_run zero a i h k e = absurd (omega arith)
  some_run (suc n) a i h k e =
      elim (cases_eq i a) [
        | inl q ↦ let p : front f (up (suc n) a) ≡ suc (front f (up n (suc a))) = front_up n a ∙ rw (ap f (sym q) ∙ e) in omega (arith, longest_up n a)
        | inr q ↦ omega (arith, longest_up n a, some_run n (suc a) i (omega arith) (omega arith) e)
      ]

-- only the numbers that are gone through count
module _ (f g : ℕ → Bool) where
  front_alike : (n a : ℕ) → ((i : ℕ) → a ≤ i → i < a + n → f i ≡ g i) → front f (up n a) ≡ front g (up n a)
  front_alike zero a h = (nothing f a).0 ∙ sym (nothing g a).0
  front_alike (suc n) a h =
      front_up f n a ∙ ap₂ (λ (t : Bool) (k : ℕ). pick t (suc k) 0) (h a (omega arith) (omega arith)) (front_alike n (suc a) (λ i l m. h i (omega arith) (omega arith))) ∙ sym (front_up g n a)

  longest_alike : (n a : ℕ) → ((i : ℕ) → a ≤ i → i < a + n → f i ≡ g i) → longest f (up n a) ≡ longest g (up n a)
  longest_alike zero a h = (nothing f a).2 ∙ sym (nothing g a).2
  longest_alike (suc n) a h =
      longest_up f n a ∙ ap₂ max (front_alike (suc n) a h) (longest_alike n (suc a) (λ i l m. h i (omega arith) (omega arith))) ∙ sym (longest_up g n a)

  back_alike : (n a : ℕ) → ((i : ℕ) → a ≤ i → i < a + n → f i ≡ g i) → back f (up n a) ≡ back g (up n a)
  back_alike zero a h = (nothing f a).1 ∙ sym (nothing g a).1
  back_alike (suc n) a h =
      back_up f n a ∙ ap₂ (λ (t : Bool) (k : ℕ). pick t (suc k) 0) (h (a + n) (omega arith) (omega arith)) (back_alike n a (λ i l m. h i l (omega arith))) ∙ sym (back_up g n a)

-- a number is kept if the next one is in the set too
abbrev pub kept : (ℕ → Bool) → ℕ → Bool
kept f i = f i && f (suc i)

module _ (f : ℕ → Bool) where
  front_out : (n a : ℕ) → f a ≡ false → front f (up n a) ≡ 0
  front_out zero a e = (nothing f a).0
  front_out (suc n) a e = front_up f n a ∙ rw e

  back_out : (n a : ℕ) → f (a + n) ≡ false → back (kept f) (up n a) ≡ 0
  back_out zero a e = (nothing (kept f) a).1
  back_out (suc n) a e =
      let k : f (suc (a + n)) ≡ false = ap f (sym (add-suc a n)) ∙ e in
      back_up (kept f) n a ∙ elim (cases_Bool (f (a + n))) [ inl q ↦ rw (q, k) | inr q ↦ rw q ]

  -- each run is shorter by one
  front_kept : (n a : ℕ) → front f (up (suc n) a) ≡ pick (f a) 1 0 + front (kept f) (up n a)
  front_kept zero a = front_up f 0 a ∙ rw ((nothing f (suc a)).0, (nothing (kept f) a).0) (omega arith)
  front_kept (suc n) a =
      elim (cases_Bool (f a)) [
        | inl p ↦
            elim (cases_Bool (f (suc a))) [
              | inl q ↦ front_up f (suc n) a ∙ rw (p, front_kept n (suc a), front_up (kept f) n a, p, q) (omega arith)
              | inr q ↦ front_up f (suc n) a ∙ rw (p, front_out (suc n) (suc a) q, front_up (kept f) n a, p, q)
            ]
        | inr p ↦ front_up f (suc n) a ∙ rw (p, front_up (kept f) n a, p)
      ]

  back_kept : (n a : ℕ) → back f (up (suc n) a) ≡ pick (f (a + n)) 1 0 + back (kept f) (up n a)
  back_kept zero a = back_up f 0 a ∙ rw ((nothing f a).1, (nothing (kept f) a).1) (omega arith)
  back_kept (suc n) a =
      let e : f (a + suc n) ≡ f (suc (a + n)) = ap f (add-suc a n) in
      elim (cases_Bool (f (suc (a + n)))) [
        | inl p ↦
            elim (cases_Bool (f (a + n))) [
              | inl q ↦ back_up f (suc n) a ∙ rw (e, p, back_kept n a, back_up (kept f) n a, q, p) (omega arith)
              | inr q ↦ back_up f (suc n) a ∙ rw (e, p, back_up f n a, back_up (kept f) n a, q)
            ]
        | inr p ↦ back_up f (suc n) a ∙ rw (e, p, back_out (suc n) a (e ∙ p))
      ]

  longest_kept : (n a : ℕ) → longest (kept f) (up n a) ≡ longest f (up (suc n) a) - 1
  longest_kept zero a = omega (arith, (nothing (kept f) a).2, longest_le f (up 1 a), length_up 1 a)
  longest_kept (suc n) a =
      let l = longest_up f (suc n) a in
      let k = longest_up (kept f) n a in
      let ih = longest_kept n (suc a) in
      let p = front_kept (suc n) a in
      elim (cases_Bool (f a)) [
        | inl e ↦ let q : front f (up (suc (suc n)) a) ≡ 1 + front (kept f) (up (suc n) a) = rw e at p in omega arith
        | inr e ↦
            let q : front f (up (suc (suc n)) a) ≡ 0 = front_out (suc (suc n)) a e in
            let z : front (kept f) (up (suc n) a) ≡ 0 = omega arith in
            omega arith
      ]

  -- where none is in the set there is no run, and where as many as there are stand at the beginning all are in it
  none_front : (xs : List ℕ) → ((i : ℕ) → f i ≡ false) → front f xs ≡ 0
  unfolding front
  none_front [] h = refl
  none_front (x ∷ xs) h = rw (h x)

  pub round_none : (xs : List ℕ) → ((i : ℕ) → f i ≡ false) → longest_round f xs ≡ 0
  unfolding longest_round
  round_none xs h = omega (arith, best_most (λ i. front f (rotated i xs)) (length xs) 0 (λ i l. omega (arith, none_front (rotated i xs) h)))

  none_longest : (xs : List ℕ) → ((i : ℕ) → f i ≡ false) → longest f xs ≡ 0
  unfolding longest
  none_longest [] h = refl
  none_longest (x ∷ xs) h = omega (arith, none_front (x ∷ xs) h, none_longest xs h)

  whole_all : (xs : List ℕ) → front f xs ≡ length xs → all f xs ≡ true
  unfolding front all
  whole_all [] e = refl
  whole_all (x ∷ xs) e =
      elim (cases_Bool (f x)) [
        | inl p ↦ let q : suc (front f xs) ≡ suc (length xs) = rw p at e in rw p (whole_all xs (omega arith))
        | inr p ↦ let q : 0 ≡ suc (length xs) = rw p at e in absurd (omega arith)
      ]

  all_whole : (xs : List ℕ) → eqb (front f xs) (length xs) ≡ all f xs
  all_whole xs =
      elim (cases_Bool (all f xs)) [
        | inl e ↦ eq-eqb (front f xs) (length xs) (front_all f xs e) ∙ sym e
        | inr e ↦ ne_eqb (front f xs) (length xs) (λ q. true≢false (sym (whole_all xs q) ∙ e)) ∙ sym e
      ]

-- a set that is not empty has a member
member : (x : ℕ) → 0 < x → (i : ℕ) × (bit x i ≡ true)
member x p =
    let t = leading_top x x p (below_power x) in
    let j : ℕ = t.0 in
    let lo = le-div 1 x (2 ^ j) (pow_pos j) (omega (arith, t.2)) in
    let hi = div_below x (2 ^ j) 2 (pow_pos j) (omega (arith, t.3, pow-suc 2 j)) in
    let e : x / 2 ^ j % 2 ≡ 1 = omega arith in
    (j, eq-eqb (x / 2 ^ j % 2) 1 e)

-- a bit as a number
pub bit_number : (x i : ℕ) → bit_and (x / 2 ^ i) 1 ≡ pick (bit x i) 1 0
bit_number x i =
    and_mask (x / 2 ^ i) 1
    ∙ elim (cases_eq (x / 2 ^ i % 2) 1) [
      | inl e ↦ e ∙ rw (eq-eqb (x / 2 ^ i % 2) 1 e)
      | inr e ↦ let z : x / 2 ^ i % 2 ≡ 0 = omega arith in z ∙ rw (ne_eqb (x / 2 ^ i % 2) 1 e)
    ]

-- what is left of a set when every run of its n numbers from a on was shortened so often that w numbers are left, and what was found by then
pub record Left (f : ℕ → Bool) (a n w x first last most : ℕ) : Type 0 where
  pub few : w ≤ n
  pub within : (i : ℕ) → bit x i ≡ true → (a ≤ i) × (i < a + w)
  pub front : front f (up n a) ≡ first + front (bit x) (up w a)
  pub back : back f (up n a) ≡ last + back (bit x) (up w a)
  pub longest : longest f (up n a) ≡ most + longest (bit x) (up w a)

module _ {f : ℕ → Bool} {a n : ℕ} where
  -- at first all are left
  pub left_first : {x : ℕ} → ((i : ℕ) → bit x i ≡ (f i && (leb a i && ltb i (a + n)))) → Left f a n n x 0 0 0
  left_first {x} h =
      let same : (i : ℕ) → a ≤ i → i < a + n → f i ≡ bit x i = λ i l m. sym (h i ∙ rw (le-leb a i l, lt-ltb i (a + n) m) (and-true (f i))) in
      record {
        few = omega arith;
        within = λ i e.
            let p = and_parts (f i) _ (sym (h i) ∙ e) in
            let q = and_parts (leb a i) (ltb i (a + n)) p.1 in
            (leb-true a i q.0, ltb-true i (a + n) q.1);
        front = front_alike f (bit x) n a same ∙ sym (zero-add _);
        back = back_alike f (bit x) n a same ∙ sym (zero-add _);
        longest = longest_alike f (bit x) n a same ∙ sym (zero-add _);
      }

  module _ {w x first last most : ℕ} (left : Left f a n w x first last most) where
    -- what is found is no more than there are numbers
    pub left_few : (first ≤ n) × (last ≤ n) × (most ≤ n)
    left_few =
        let l = length_up n a in
        (omega (arith, left.front, front_le f (up n a)), omega (arith, left.back, back_le f (up n a)), omega (arith, left.longest, longest_le f (up n a)))

    pub left_some : 0 < x → 0 < w
    left_some p = let m = member x p in let k = left.within m.0 m.1 in omega (arith, k.0, k.1)

    -- every run shortened once more
    pub left_less : {v y : ℕ} → w ≡ suc v → 0 < x → y ≡ bit_and x (x / 2)
        → Left f a n v y (first + pick (bit x a) 1 0) (last + pick (bit x (a + v)) 1 0) (most + 1)
    left_less {v} {y} e p q =
        let same : (i : ℕ) → bit y i ≡ kept (bit x) i = λ i. ap (λ (z : ℕ). bit z i) q ∙ bit-bit_and x (x / 2) i ∙ ap (λ (t : Bool). bit x i && t) (bit_shr x 1 i ∙ ap (bit x) (one-add i)) in
        let both : bit y ≡ kept (bit x) = fun_ext same in
        let m = member x p in
        let k = left.within m.0 m.1 in
        let some : 1 ≤ longest (bit x) (up (suc v) a) = some_run (bit x) (suc v) a m.0 k.0 (omega (arith, k.1)) m.1 in
        let g : front f (up n a) ≡ first + front (bit x) (up (suc v) a) = rw e at left.front in
        let b : back f (up n a) ≡ last + back (bit x) (up (suc v) a) = rw e at left.back in
        let l : longest f (up n a) ≡ most + longest (bit x) (up (suc v) a) = rw e at left.longest in
        record {
          few = omega (arith, left.few);
          within = λ i o.
              let t = and_parts (bit x i) (bit x (suc i)) (sym (same i) ∙ o) in
              ((left.within i t.0).0, omega (arith, (left.within (suc i) t.1).1));
          front = omega (arith, front_kept (bit x) v a, ap (λ (t : ℕ → Bool). front t (up v a)) both);
          back = omega (arith, back_kept (bit x) v a, ap (λ (t : ℕ → Bool). back t (up v a)) both);
          longest = omega (arith, longest_kept (bit x) v a, ap (λ (t : ℕ → Bool). longest t (up v a)) both);
        }

    -- none is left
    pub left_none : x ≡ 0 → pick (eqb first n) (Whole n) (pieces first last most) ≡ runs_of f (up n a)
    left_none z =
        let none : (i : ℕ) → bit x i ≡ false = λ i. ap (λ (y : ℕ). bit y i) z ∙ bit_none i in
        let g : front f (up n a) ≡ first = omega (arith, left.front, none_front (bit x) (up w a) none) in
        let b : back f (up n a) ≡ last = omega (arith, left.back, none_front (bit x) (reversed (up w a)) none) in
        let l : longest f (up n a) ≡ most = omega (arith, left.longest, none_longest (bit x) (up w a) none) in
        let whole : eqb first n ≡ all f (up n a) = ap₂ eqb (sym g) (sym (length_up n a)) ∙ all_whole f (up n a) in
        rw (whole, ← g, ← b, ← l, length_up)

-- the numbers of a run that goes up, and those of the set among them
pub run_up_written : (a b : ℕ) → a ≤ b → written (run a b) ≡ up (b - a + 1) a
unfolding written
run_up_written a b h = rw (le-leb a b h, add-one (b - a))

pub span_members : (set numbers a b i : ℕ) → a ≤ b → ((n : ℕ) → bit numbers n ≡ among n (written (run a b)))
    → bit (bit_and set numbers) i ≡ (bit set i && (leb a i && ltb i (a + (b - a + 1))))
span_members set numbers a b i h is =
    bit-bit_and set numbers i
    ∙ ap (λ (t : Bool). bit set i && t) (is i ∙ among_run i a b ∙ ap₂ (λ (lo hi : ℕ). leb lo i && leb i hi) (omega arith) (omega arith) ∙ ap (λ (t : Bool). leb a i && t) below)
  where
    below : leb i b ≡ ltb i (a + (b - a + 1))
    below = elim (cases_lt b i) [ inl l ↦ lt-leb i b l ∙ sym (le-ltb i (a + (b - a + 1)) (omega arith)) | inr l ↦ le-leb i b l ∙ sym (lt-ltb i (a + (b - a + 1)) (omega arith)) ]

-- a run that goes down is one that goes up, turned
down_turned : (n b : ℕ) → down (suc n) (b + n) ≡ reversed (up (suc n) b)
unfolding down up reversed
down_turned zero b = ap (λ (k : ℕ). k ∷ []) (add-zero b)
down_turned (suc n) b =
    let e : b + suc n - 1 ≡ b + n = omega arith in
    ap (λ (k : ℕ). (b + suc n) ∷ down (suc n) k) e
    ∙ ap (λ (xs : List ℕ). (b + suc n) ∷ xs) (down_turned n b)
    ∙ sym (ap reversed (up_last (suc n) b) ∙ reversed_append (up (suc n) b) ((b + suc n) ∷ []))

pub run_down_written : (a b : ℕ) → b < a → written (run a b) ≡ reversed (written (run b a))
unfolding written
run_down_written a b h =
    let e : a ≡ b + (a - b) = omega arith in
    rw (lt-leb a b h, le-leb b a (omega arith)) (ap (down (suc (a - b))) e ∙ down_turned (a - b) b)
