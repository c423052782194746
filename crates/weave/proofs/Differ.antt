-- Counting what differs: how many kinds there are in a list, by a test that tells which are of one kind. Assumes nothing.
use Rattle.std.proofs.Common.{◌≡◌, ℕ, zero, suc, ◌+◌, ◌<◌, ◌≤◌, Bool, true, false, not, ◌&&◌, ◌||◌, eqb, ltb, List, [], ◌∷◌, length, get_or, sym, refl, ap, ◌∙◌, inl, inr, le_antisymm, arith}
use mathlib.Core.Path.{fun_ext}
use Rattle.std.proofs.lemmas.Bool.{cases_Bool, cases_order, and_parts, and_from, and_right, or_cases, or_left, or_right, eqb-true, eq-eqb, ne_eqb, lt-ltb, le-ltb, false≢true}
use Rattle.weave.specs.Rows.{pick, Row, written}
use Rattle.weave.specs.Cloth.{Draft, lifts, among, same_on, same_by, some_same, different, shafts_needed, treadles_needed}
use Rattle.weave.specs.Promise.{used}
use Rattle.weave.proofs.Cloth.{among_at, among_where}
use Rattle.weave.proofs.Counts.{any, any_at, any_where, none_any, count, count_same}

-- two tests that pass together are one
pub same_test : (a b : Bool) → (a ≡ true → b ≡ true) → (b ≡ true → a ≡ true) → a ≡ b
same_test true b h k = sym (h refl)
same_test false true h k = k refl
same_test false false h k = refl

pub some_same_at : (f : ℕ → ℕ → Bool) (x : ℕ) (xs : List ℕ) (i : ℕ) → i < length xs → f x (get_or xs i 0) ≡ true → some_same f x xs ≡ true
unfolding some_same
some_same_at f x [] i h e = absurd (omega arith)
some_same_at f x (y ∷ ys) zero h e = or_left (f x y) (some_same f x ys) e
some_same_at f x (y ∷ ys) (suc i) h e = or_right (f x y) (some_same f x ys) (some_same_at f x ys i (omega arith) e)

pub some_same_where : (f : ℕ → ℕ → Bool) (x : ℕ) (xs : List ℕ) → some_same f x xs ≡ true → (i : ℕ) × (i < length xs) × (f x (get_or xs i 0) ≡ true)
unfolding some_same
some_same_where f x [] e = absurd (false≢true e)
some_same_where f x (y ∷ ys) e =
    elim (or_cases (f x y) (some_same f x ys) e) [
      | inl h ↦ (0, omega arith, h)
      | inr h ↦ let w = some_same_where f x ys h in let k = w.1 in (suc w.0, omega arith, w.2)
    ]

-- a test that tells less apart finds fewer that differ
pub different_most : (f g : ℕ → ℕ → Bool) (xs zs : List ℕ) → length xs ≡ length zs
    → ((i j : ℕ) → i < length xs → j < length xs → g (get_or zs i 0) (get_or zs j 0) ≡ true → f (get_or xs i 0) (get_or xs j 0) ≡ true)
    → different f xs ≤ different g zs
unfolding different
different_most f g [] [] l h = omega arith
different_most f g [] (z ∷ zs) l h = omega arith
different_most f g (x ∷ xs) [] l h = absurd (omega arith)
different_most f g (x ∷ xs) (z ∷ zs) l h =
    let rest = different_most f g xs zs (omega arith) (λ i j p q e. h (suc i) (suc j) (omega arith) (omega arith) e) in
    elim (cases_Bool (some_same g z zs)) [
      | inl e ↦
          let w = some_same_where g z zs e in
          let k = w.1 in
          let t : some_same f x xs ≡ true = some_same_at f x xs w.0 (omega arith) (h 0 (suc w.0) (omega arith) (omega arith) w.2) in
          rw (e, t) (omega arith)
      | inr e ↦ elim (cases_Bool (some_same f x xs)) [ inl t ↦ rw (e, t) (omega arith) | inr t ↦ rw (e, t) (omega arith) ]
    ]

pub different_same : (f g : ℕ → ℕ → Bool) (xs : List ℕ) → ((i j : ℕ) → i < length xs → j < length xs → f (get_or xs i 0) (get_or xs j 0) ≡ g (get_or xs i 0) (get_or xs j 0)) → different f xs ≡ different g xs
different_same f g xs h =
    le_antisymm
    (different_most f g xs xs refl (λ i j p q e. h i j p q ∙ e))
    (different_most g f xs xs refl (λ i j p q e. sym (h i j p q) ∙ e))

-- a test that sorts numbers into kinds
pub record Kinds (f : ℕ → ℕ → Bool) : Type 0 where
  pub self : (a : ℕ) → f a a ≡ true
  pub back : (a b : ℕ) → f a b ≡ true → f b a ≡ true
  pub on : (a b c : ℕ) → f a b ≡ true → f b c ≡ true → f a c ≡ true

pub eqb_kinds : Kinds eqb
eqb_kinds =
    record {
      self = λ a. eq-eqb a a refl;
      back = λ a b e. eq-eqb b a (sym (eqb-true a b e));
      on = λ a b c e h. eq-eqb a c (eqb-true a b e ∙ eqb-true b c h);
    }

-- two of one kind are of the same kind as any other
pub kinds_same : (f : ℕ → ℕ → Bool) → Kinds f → (a b c : ℕ) → f a b ≡ true → f a c ≡ f b c
kinds_same f k a b c e = same_test (f a c) (f b c) (k.on b a c (k.back a b e)) (k.on a b c e)

pub kinds_swap : (f : ℕ → ℕ → Bool) → Kinds f → (a b : ℕ) → f a b ≡ f b a
kinds_swap f k a b = same_test (f a b) (f b a) (k.back a b) (k.back b a)

-- the first of its kind in a set
abbrev pub first_of_kind : (ℕ → ℕ → Bool) → (ℕ → Bool) → ℕ → Bool
first_of_kind f set k = set k && not (any (λ j. set j && f j k) k)

any_same : (f g : ℕ → Bool) (n : ℕ) → ((i : ℕ) → i < n → f i ≡ g i) → any f n ≡ any g n
any_same f g n h =
    same_test (any f n) (any g n)
    (λ e. let w = any_where f n e in any_at g n w.0 w.1 (sym (h w.0 w.1) ∙ w.2))
    (λ e. let w = any_where g n e in any_at f n w.0 w.1 (h w.0 w.1 ∙ w.2))

-- one more in a set makes one kind more if it is below n and no other there is of its kind
module _ (f : ℕ → ℕ → Bool) (kinds : Kinds f) (set : ℕ → Bool) (x : ℕ) where
  -- the set with x
  abbrev more : ℕ → Bool
  more k = eqb k x || set k

  -- whether x lies below n, and nothing there is of its kind
  abbrev alone : ℕ → Bool
  alone n = ltb x n && not (any (λ y. set y && f y x) n)

  more_other : (k : ℕ) → (k ≡ x → ⊥) → more k ≡ set k
  more_other k h = rw (ne_eqb k x h)

  any_before : (n k : ℕ) → n ≤ x → any (λ j. more j && f j k) n ≡ any (λ j. set j && f j k) n
  any_before n k h = any_same (λ j. more j && f j k) (λ j. set j && f j k) n (λ j l. ap (λ (t : Bool). t && f j k) (more_other j (λ e. omega arith)))

  any_after : (n k : ℕ) → x < n → any (λ j. more j && f j k) n ≡ (f x k || any (λ j. set j && f j k) n)
  any_after n k h =
      same_test (any (λ j. more j && f j k) n) (f x k || any (λ j. set j && f j k) n)
      (λ e.
      let w = any_where (λ j. more j && f j k) n e in
      let b = and_parts (more w.0) (f w.0 k) w.2 in
      elim (or_cases (eqb w.0 x) (set w.0) b.0) [
        | inl q ↦ or_left (f x k) (any (λ j. set j && f j k) n) (rw (eqb-true w.0 x q) at b.1)
        | inr q ↦ or_right (f x k) (any (λ j. set j && f j k) n) (any_at (λ j. set j && f j k) n w.0 w.1 (and_from (set w.0) (f w.0 k) q b.1))
      ])
      (λ e.
      elim (or_cases (f x k) (any (λ j. set j && f j k) n) e) [
        | inl q ↦ any_at (λ j. more j && f j k) n x h (and_from (more x) (f x k) (or_left (eqb x x) (set x) (eq-eqb x x refl)) q)
        | inr q ↦
            let w = any_where (λ j. set j && f j k) n q in
            let b = and_parts (set w.0) (f w.0 k) w.2 in
            any_at (λ j. more j && f j k) n w.0 w.1 (and_from (more w.0) (f w.0 k) (or_right (eqb w.0 x) (set w.0) b.0) b.1)
      ])

  -- of one kind with x: others of its kind are those of x
  any_kind : (n k : ℕ) → f x k ≡ true → any (λ j. set j && f j k) n ≡ any (λ j. set j && f j x) n
  any_kind n k e = any_same (λ j. set j && f j k) (λ j. set j && f j x) n (λ j l. ap (λ (t : Bool). set j && t) (kinds_swap f kinds j k ∙ (sym (kinds_same f kinds x k j e) ∙ kinds_swap f kinds x j)))

  here : (p a : Bool) → pick (not a) 1 0 + 0 ≡ pick (p && not a) 1 0 + pick (not (p || a)) 1 0
  here true true = refl
  here true false = refl
  here false true = refl
  here false false = refl

  past : (p q a b : Bool) → (q ≡ true → a ≡ b) → pick (p && not (q || a)) 1 0 + pick (not b) 1 0 ≡ pick (p && not a) 1 0 + pick (not ((p && q) || b)) 1 0
  past true true a b h = rw (h refl) (elim (cases_Bool b) [ inl e ↦ rw e | inr e ↦ rw e ])
  past true false a b h = refl
  past false q a b h = refl

  step : (n : ℕ) → pick (first_of_kind f more n) 1 0 + pick (alone n) 1 0 ≡ pick (first_of_kind f set n) 1 0 + pick (alone (suc n)) 1 0
  unfolding any
  step n =
      elim (cases_order n x) [
        | inl e ↦
            rw (e, eq-eqb x x refl, any_before x x (omega arith), le-ltb x x (omega arith), lt-ltb x (suc x) (omega arith), kinds.self x)
            (and_true_at (set x) (any (λ j. set j && f j x) x))
        | inr o ↦
            elim o [
              | inl h ↦
                  rw (more_other n (λ e. omega arith), any_before n n (omega arith), le-ltb x n (omega arith), le-ltb x (suc n) (omega arith))
              | inr h ↦
                  rw (more_other n (λ e. omega arith), any_after n n h, lt-ltb x n h, lt-ltb x (suc n) (omega arith), kinds_swap f kinds n x)
                  (past (set n) (f x n) (any (λ j. set j && f j n) n) (any (λ j. set j && f j x) n) (any_kind n n))
            ]
      ]
    where
      and_true_at : (p a : Bool) → pick (not a) 1 0 + 0 ≡ pick (p && not a) 1 0 + pick (not ((p && true) || a)) 1 0
      and_true_at true a = here true a
      and_true_at false a = here false a

  kinds_more : (n : ℕ) → count (first_of_kind f more) n ≡ count (first_of_kind f set) n + pick (alone n) 1 0
  unfolding count
  kinds_more zero = rw (le-ltb x 0 (omega arith))
  kinds_more (suc n) = let s = step n in let h = kinds_more n in omega arith

no_kinds : (f : ℕ → ℕ → Bool) (n : ℕ) → count (first_of_kind f (λ k. false)) n ≡ 0
unfolding count
no_kinds f zero = refl
no_kinds f (suc n) = let h = no_kinds f n in omega arith

some_same_any : (f : ℕ → ℕ → Bool) → Kinds f → (n x : ℕ) (xs : List ℕ) → ((i : ℕ) → i < length xs → get_or xs i 0 < n) → any (λ y. among y xs && f y x) n ≡ some_same f x xs
some_same_any f kinds n x xs h =
    same_test (any (λ y. among y xs && f y x) n) (some_same f x xs)
    (λ e.
    let w = any_where (λ y. among y xs && f y x) n e in
    let b = and_parts (among w.0 xs) (f w.0 x) w.2 in
    let v = among_where w.0 xs b.0 in
    some_same_at f x xs v.0 v.1 (kinds.back (get_or xs v.0 0) x (rw v.2 at b.1)))
    (λ e.
    let w = some_same_where f x xs e in
    any_at (λ y. among y xs && f y x) n (get_or xs w.0 0) (h w.0 w.1)
    (and_from (among (get_or xs w.0 0) xs) (f (get_or xs w.0 0) x) (among_at xs w.0 w.1) (kinds.back x (get_or xs w.0 0) w.2)))

-- as many differ as are the first of their kind, among the numbers that there are
pub different_kinds : (f : ℕ → ℕ → Bool) → Kinds f → (n : ℕ) (xs : List ℕ) → ((i : ℕ) → i < length xs → get_or xs i 0 < n) → different f xs ≡ count (first_of_kind f (λ k. among k xs)) n
unfolding different among
different_kinds f kinds n [] h = sym (no_kinds f n)
different_kinds f kinds n (x ∷ xs) h =
    let rest = different_kinds f kinds n xs (λ i k. h (suc i) (omega arith)) in
    let one_more = kinds_more f kinds (λ k. among k xs) x n in
    let mine : pick {A = ℕ} (ltb x n && not (any (λ y. among y xs && f y x) n)) 1 0 ≡ pick {A = ℕ} (some_same f x xs) 0 1 =
    rw (lt-ltb x n (h 0 (omega arith)), some_same_any f kinds n x xs (λ i k. h (suc i) (omega arith)))
    (elim (cases_Bool (some_same f x xs)) [ inl e ↦ rw e | inr e ↦ rw e ]) in
    omega arith

-- so it is of no account how often a number comes, and in what order
pub different_members : (f : ℕ → ℕ → Bool) → Kinds f → (n : ℕ) (xs ys : List ℕ) → ((i : ℕ) → i < length xs → get_or xs i 0 < n) → ((i : ℕ) → i < length ys → get_or ys i 0 < n)
    → ((k : ℕ) → among k xs ≡ among k ys) → different f xs ≡ different f ys
different_members f kinds n xs ys hx hy same =
    different_kinds f kinds n xs hx
    ∙ (ap (λ (set : ℕ → Bool). count (first_of_kind f set) n) (fun_ext same) ∙ sym (different_kinds f kinds n ys hy))

-- told apart as numbers: as many as there are
first_number : (set : ℕ → Bool) (k : ℕ) → first_of_kind eqb set k ≡ set k
first_number set k =
    let none : any (λ j. set j && eqb j k) k ≡ false =
    none_any (λ j. set j && eqb j k) k (λ j h. rw (ne_eqb j k (λ e. omega arith)) (and_right (set j) false refl)) in
    rw none (elim (cases_Bool (set k)) [ inl e ↦ rw e | inr e ↦ rw e ])

pub different_numbers : (n : ℕ) (xs : List ℕ) → ((i : ℕ) → i < length xs → get_or xs i 0 < n) → different eqb xs ≡ count (λ k. among k xs) n
different_numbers n xs h = different_kinds eqb eqb_kinds n xs h ∙ count_same (first_of_kind eqb (λ k. among k xs)) (λ k. among k xs) n (λ k l. first_number (λ j. among j xs) k)

pub used_count : (n : ℕ) (r : Row) → used n r ≡ count (λ k. among k (written r)) n
unfolding used count
used_count zero r = refl
used_count (suc n) r = rw (used_count n r)

-- a and b are alike across each of some: shafts across treadles, and treadles across shafts
unfoldable pub alike : (ℕ → ℕ → Bool) → List ℕ → ℕ → ℕ → Bool
alike over [] a b = true
alike over (u ∷ us) a b = eqb (pick (over u a) 1 0) (pick (over u b) 1 0) && alike over us a b

bit_same : (x y : Bool) → eqb (pick x 1 0) (pick y 1 0) ≡ true → x ≡ y
bit_same true true e = refl
bit_same true false e = absurd (false≢true e)
bit_same false true e = absurd (false≢true e)
bit_same false false e = refl

pub alike_at : (over : ℕ → ℕ → Bool) (us : List ℕ) (a b : ℕ) → alike over us a b ≡ true → (k : ℕ) → k < length us → over (get_or us k 0) a ≡ over (get_or us k 0) b
unfolding alike
alike_at over [] a b e k h = absurd (omega arith)
alike_at over (u ∷ us) a b e zero h = bit_same (over u a) (over u b) (and_parts (eqb (pick (over u a) 1 0) (pick (over u b) 1 0)) (alike over us a b) e).0
alike_at over (u ∷ us) a b e (suc k) h = alike_at over us a b (and_parts (eqb (pick (over u a) 1 0) (pick (over u b) 1 0)) (alike over us a b) e).1 k (omega arith)

pub alike_all : (over : ℕ → ℕ → Bool) (us : List ℕ) (a b : ℕ) → ((k : ℕ) → k < length us → over (get_or us k 0) a ≡ over (get_or us k 0) b) → alike over us a b ≡ true
unfolding alike
alike_all over [] a b h = refl
alike_all over (u ∷ us) a b h =
    and_from (eqb (pick (over u a) 1 0) (pick (over u b) 1 0)) (alike over us a b)
    (eq-eqb (pick (over u a) 1 0) (pick (over u b) 1 0) (ap (λ x. pick x 1 0) (h 0 (omega arith))))
    (alike_all over us a b (λ k l. h (suc k) (omega arith)))

pub alike_kinds : (over : ℕ → ℕ → Bool) (us : List ℕ) → Kinds (alike over us)
alike_kinds over us =
    record {
      self = λ a. alike_all over us a a (λ k h. refl);
      back = λ a b e. alike_all over us b a (λ k h. sym (alike_at over us a b e k h));
      on = λ a b c e f. alike_all over us a c (λ k h. alike_at over us a b e k h ∙ alike_at over us b c f k h);
    }

-- the shafts and treadles that are needed are kinds of shafts and of treadles
pub same_by_alike : (ts : List (List Bool)) (us : List ℕ) (a b : ℕ) → same_by ts us a b ≡ alike (λ t s. lifts ts t s) us a b
unfolding same_by alike
same_by_alike ts [] a b = refl
same_by_alike ts (u ∷ us) a b = rw (same_by_alike ts us a b)

pub same_on_alike : (ts : List (List Bool)) (us : List ℕ) (a b : ℕ) → same_on ts us a b ≡ alike (λ s t. lifts ts t s) us a b
unfolding same_on alike
same_on_alike ts [] a b = refl
same_on_alike ts (u ∷ us) a b = rw (same_on_alike ts us a b)

pub shafts_alike : (d : Draft) → shafts_needed d ≡ different (alike (λ t s. lifts d.tied t s) (written d.treadling)) (written d.threading)
shafts_alike d = ap (λ (f : ℕ → ℕ → Bool). different f (written d.threading)) (fun_ext (λ a. fun_ext (λ b. same_by_alike d.tied (written d.treadling) a b)))

pub treadles_alike : (d : Draft) → treadles_needed d ≡ different (alike (λ s t. lifts d.tied t s) (written d.threading)) (written d.treadling)
treadles_alike d = ap (λ (f : ℕ → ℕ → Bool). different f (written d.treadling)) (fun_ext (λ a. fun_ext (λ b. same_on_alike d.tied (written d.threading) a b)))
