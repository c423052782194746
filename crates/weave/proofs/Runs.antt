-- Runs: how long a list goes on with numbers that pass a test, from its beginning, to its end, at the longest, and round its end. Assumes nothing.
use Rattle.std.proofs.Common.{◌≡◌, ℕ, zero, suc, ◌+◌, ◌-◌, ◌%◌, ◌<◌, ◌≤◌, max, Bool, true, false, ◌&&◌, List, [], ◌∷◌, ◌++◌, length, get_or, take, drop, sym, refl, ap, ◌∙◌, inl, inr, mod-lt, mod-eq_of_lt, le_antisymm, arith}
use native.Mathlib.Nat.{mod-eq-sub-mod}
use Rattle.std.proofs.lemmas.List.{length-append, length-take, length-drop, append_assoc, append-nil, take-append-drop, drop-append-le, drop-drop, drop_at, drop_all, get_or-drop, get_or-take, get_or_append_left, get_or-append_right}
use Rattle.std.proofs.lemmas.Bool.{cases_Bool, cases_lt, and_parts}
use Rattle.weave.specs.Rows.{pick, again, reversed}
use Rattle.weave.proofs.Rows.{length_reversed, reversed_append, reversed_twice}
use Rattle.weave.proofs.Longest.{best, best_none, best_most, best_least, best_alike, best_some, passes, passes_most, passes_all, passes_least}

-- from its beginning
unfoldable pub front : (ℕ → Bool) → List ℕ → ℕ
front f [] = 0
front f (x ∷ xs) = pick (f x) (suc (front f xs)) 0

-- to its end
abbrev pub back : (ℕ → Bool) → List ℕ → ℕ
back f xs = front f (reversed xs)

-- from any place on
unfoldable pub longest : (ℕ → Bool) → List ℕ → ℕ
longest f [] = 0
longest f (x ∷ xs) = max (front f (x ∷ xs)) (longest f xs)

-- whether all pass
unfoldable pub all : (ℕ → Bool) → List ℕ → Bool
all f [] = true
all f (x ∷ xs) = f x && all f xs

-- a list begun at a place, the rest behind it
abbrev pub rotated : ℕ → List ℕ → List ℕ
rotated i xs = drop i xs ++ take i xs

-- from any place on, round the end, up to the length
unfoldable pub longest_round : (ℕ → Bool) → List ℕ → ℕ
longest_round f xs = best (λ i. front f (rotated i xs)) (length xs)

and_swap : (a b : Bool) → (a && b) ≡ (b && a)
and_swap true true = refl
and_swap true false = refl
and_swap false true = refl
and_swap false false = refl

and-true : (a : Bool) → (a && true) ≡ a
and-true true = refl
and-true false = refl

and_same : (a : Bool) → (a && a) ≡ a
and_same true = refl
and_same false = refl

module _ (f : ℕ → Bool) where
  -- a list of one number
  pub all_one : (x : ℕ) → all f (x ∷ []) ≡ f x
  unfolding all
  all_one x = elim (cases_Bool (f x)) [ inl e ↦ rw e | inr e ↦ rw e ]

  pub front_one : (x : ℕ) → front f (x ∷ []) ≡ pick (f x) 1 0
  unfolding front
  front_one x = refl

  pub longest_one : (x : ℕ) → longest f (x ∷ []) ≡ pick (f x) 1 0
  unfolding longest front
  longest_one x = elim (cases_Bool (f x)) [ inl e ↦ rw e | inr e ↦ rw e ]

  pub back_one : (x : ℕ) → back f (x ∷ []) ≡ pick (f x) 1 0
  unfolding reversed front
  back_one x = refl

  -- two lists joined
  pub all_append : (xs ys : List ℕ) → all f (xs ++ ys) ≡ (all f xs && all f ys)
  unfolding all
  all_append [] ys = refl
  all_append (x ∷ xs) ys = elim (cases_Bool (f x)) [ inl e ↦ rw e (all_append xs ys) | inr e ↦ rw e ]

  pub all_swap : (xs ys : List ℕ) → all f (xs ++ ys) ≡ all f (ys ++ xs)
  all_swap xs ys = all_append xs ys ∙ (and_swap (all f xs) (all f ys) ∙ sym (all_append ys xs))

  -- a list turned
  pub all_reversed : (xs : List ℕ) → all f (reversed xs) ≡ all f xs
  unfolding reversed
  all_reversed [] = refl
  all_reversed (x ∷ xs) = all_swap (reversed xs) (x ∷ []) ∙ (all_append (x ∷ []) (reversed xs) ∙ (ap (λ (t : Bool). all f (x ∷ []) && t) (all_reversed xs) ∙ sym (all_append (x ∷ []) xs)))

  -- from the beginning, of two lists joined, and where all pass
  pub front_append : (xs ys : List ℕ) → front f (xs ++ ys) ≡ pick (all f xs) (length xs + front f ys) (front f xs)
  unfolding all front
  front_append [] ys = omega arith
  front_append (x ∷ xs) ys = elim (cases_Bool (f x)) [
    | inl e ↦ rw (e, front_append xs ys) (elim (cases_Bool (all f xs)) [ inl a ↦ rw a (omega arith) | inr a ↦ rw a ])
    | inr e ↦ rw e
  ]

  pub front_le : (xs : List ℕ) → front f xs ≤ length xs
  unfolding front
  front_le [] = omega arith
  front_le (x ∷ xs) = let h = front_le xs in elim (cases_Bool (f x)) [ inl e ↦ rw e (omega arith) | inr e ↦ rw e (omega arith) ]

  pub back_le : (xs : List ℕ) → back f xs ≤ length xs
  back_le xs = omega (arith, front_le (reversed xs), length_reversed xs)

  pub front_all : (xs : List ℕ) → all f xs ≡ true → front f xs ≡ length xs
  unfolding front all
  front_all [] h = refl
  front_all (x ∷ xs) h = let p = and_parts (f x) (all f xs) h in rw p.0 (ap suc (front_all xs p.1))

  pub back_all : (xs : List ℕ) → all f xs ≡ true → back f xs ≡ length xs
  back_all xs h = front_all (reversed xs) (all_reversed xs ∙ h) ∙ length_reversed xs

  front_none : front f [] ≡ 0
  unfolding front
  front_none = refl

  pub front_longest : (xs : List ℕ) → front f xs ≤ longest f xs
  unfolding longest
  front_longest [] = omega (arith, front_none)
  front_longest (x ∷ xs) = omega arith

  pub longest_le : (xs : List ℕ) → longest f xs ≤ length xs
  unfolding longest
  longest_le [] = omega arith
  longest_le (x ∷ xs) = omega (arith, front_le (x ∷ xs), longest_le xs)

  pub longest_all : (xs : List ℕ) → all f xs ≡ true → longest f xs ≡ length xs
  longest_all xs h = omega (arith, front_longest xs, longest_le xs, front_all xs h)

  front_cons : (x : ℕ) (xs : List ℕ) → front f (x ∷ xs) ≡ pick (f x) (suc (front f xs)) 0
  unfolding front
  front_cons x xs = refl

  -- to the end, and at the longest, of two lists joined
  pub back_append : (xs ys : List ℕ) → back f (xs ++ ys) ≡ pick (all f ys) (length ys + back f xs) (back f ys)
  back_append xs ys = rw (reversed_append xs ys, front_append (reversed ys) (reversed xs), all_reversed ys, length_reversed ys)

  longest_cons : (x : ℕ) (xs : List ℕ) → longest f (x ∷ xs) ≡ max (front f (x ∷ xs)) (longest f xs)
  unfolding longest
  longest_cons x xs = refl

  longest_none : longest f [] ≡ 0
  unfolding longest
  longest_none = refl

  back_none : back f [] ≡ 0
  unfolding front reversed
  back_none = refl

  back_cons : (x : ℕ) (xs : List ℕ) → all f (x ∷ xs) ≡ false → back f (x ∷ xs) ≡ back f xs
  back_cons x xs e =
      let q : back f (x ∷ xs) ≡ pick (all f xs) (length xs + back f (x ∷ [])) (back f xs) = back_append (x ∷ []) xs in
      let k : (all f (x ∷ []) && all f xs) ≡ false = sym (all_append (x ∷ []) xs) ∙ e in
      elim (cases_Bool (all f xs)) [
        | inl a ↦
            let n : f x ≡ false = sym (all_one x) ∙ (sym (and-true (all f (x ∷ []))) ∙ (rw a at k)) in
            let z : back f (x ∷ []) ≡ 0 = back_one x ∙ rw n in
            let q' : back f (x ∷ xs) ≡ length xs + back f (x ∷ []) = rw a at q in
            omega (arith, back_all xs a)
        | inr a ↦ rw a at q
      ]

  pub longest_append : (xs ys : List ℕ) → longest f (xs ++ ys) ≡ max (max (longest f xs) (longest f ys)) (back f xs + front f ys)
  longest_append [] ys = rw (longest_none, back_none) (omega (arith, front_longest ys))
  longest_append (x ∷ xs) ys =
      let ih = longest_append xs ys in
      let a = longest_cons x (xs ++ ys) in
      let b = longest_cons x xs in
      let p = front_append (x ∷ xs) ys in
      elim (cases_Bool (all f (x ∷ xs))) [
        | inl e ↦
            let u : (all f (x ∷ []) ≡ true) × (all f xs ≡ true) = and_parts _ _ (sym (all_append (x ∷ []) xs) ∙ e) in
            let p' : front f (x ∷ (xs ++ ys)) ≡ suc (length xs) + front f ys = rw e at p in
            omega (arith, back_all (x ∷ xs) e, back_all xs u.1, front_all (x ∷ xs) e)
        | inr e ↦
            let p' : front f (x ∷ (xs ++ ys)) ≡ front f (x ∷ xs) = rw e at p in
            omega (arith, back_cons x xs e)
      ]

  -- at the longest, of a list turned
  pub longest_reversed : (xs : List ℕ) → longest f (reversed xs) ≡ longest f xs
  unfolding reversed
  longest_reversed [] = refl
  longest_reversed (x ∷ xs) =
      let a = longest_append (reversed xs) (x ∷ []) in
      let b = longest_cons x xs in
      let i = longest_reversed xs in
      let t : back f (reversed xs) ≡ front f xs = ap (front f) (reversed_twice xs) in
      let o = front_one x in
      let l = longest_one x in
      let p : front f (x ∷ xs) ≡ pick (f x) (suc (front f xs)) 0 = front_cons x xs in
      let g = front_longest xs in
      elim (cases_Bool (f x)) [
        | inl e ↦
            let o' : front f (x ∷ []) ≡ 1 = rw e at o in
            let l' : longest f (x ∷ []) ≡ 1 = rw e at l in
            let p' : front f (x ∷ xs) ≡ suc (front f xs) = rw e at p in
            omega arith
        | inr e ↦
            let o' : front f (x ∷ []) ≡ 0 = rw e at o in
            let l' : longest f (x ∷ []) ≡ 0 = rw e at l in
            let p' : front f (x ∷ xs) ≡ 0 = rw e at p in
            omega arith
      ]

  -- a list again and again
  pub all_again : (n : ℕ) (xs : List ℕ) → all f (again (suc n) xs) ≡ all f xs
  unfolding again
  all_again zero xs = ap (all f) (append-nil xs)
  all_again (suc n) xs = all_append xs (again (suc n) xs) ∙ (ap (λ (t : Bool). all f xs && t) (all_again n xs) ∙ and_same (all f xs))

  pub front_again : (n : ℕ) (xs : List ℕ) → all f xs ≡ false → front f (again (suc n) xs) ≡ front f xs
  unfolding again
  front_again n xs e = front_append xs (again n xs) ∙ rw e

  pub back_again : (n : ℕ) (xs : List ℕ) → all f xs ≡ false → back f (again (suc n) xs) ≡ back f xs
  unfolding again
  back_again zero xs e = ap (back f) (append-nil xs)
  back_again (suc n) xs e = back_append xs (again (suc n) xs) ∙ rw (all_again n xs, e) (back_again n xs e)

  pub longest_again : (n : ℕ) (xs : List ℕ) → all f xs ≡ false → longest f (again (suc (suc n)) xs) ≡ max (longest f xs) (back f xs + front f xs)
  unfolding again
  longest_again zero xs e = ap (longest f) (ap (λ (ys : List ℕ). xs ++ ys) (append-nil xs)) ∙ (longest_append xs xs ∙ omega arith)
  longest_again (suc n) xs e = longest_append xs (again (suc (suc n)) xs) ∙ omega (arith, longest_again n xs e, front_again (suc n) xs e)

  pub longest_once : (xs : List ℕ) → longest f (again 1 xs) ≡ longest f xs
  unfolding again
  longest_once xs = ap (longest f) (append-nil xs)

-- a list begun at a place
pub rotated_long : (i : ℕ) (xs : List ℕ) → length (rotated i xs) ≡ length xs
rotated_long i xs = length-append (drop i xs) (take i xs) ∙ omega (arith, length-drop i xs, length-take i xs)

pub get_or_rotated : (i k : ℕ) (xs : List ℕ) → i < length xs → k < length xs → get_or (rotated i xs) k 0 ≡ get_or xs ((i + k) % length xs) 0
get_or_rotated i k xs h l =
    let n = length-drop i xs in
    elim (cases_lt k (length xs - i)) [
      | inl m ↦ get_or_append_left (drop i xs) (take i xs) 0 k (omega arith) ∙ (get_or-drop i xs k 0 ∙ ap (λ (j : ℕ). get_or xs j 0) (sym (mod-eq_of_lt {n = i + k} {m = length xs} (omega arith))))
      | inr m ↦
          let e : (i + k) % length xs ≡ k - (length xs - i) =
          mod-eq-sub-mod {n = i + k} {m = length xs} (omega arith) ∙ (mod-eq_of_lt {n = i + k - length xs} {m = length xs} (omega arith) ∙ omega arith) in
          get_or-append_right (drop i xs) (take i xs) (length xs - i) k 0 n m ∙ (get_or-take i xs (k - (length xs - i)) 0 (omega arith) ∙ ap (λ (j : ℕ). get_or xs j 0) (sym e))
    ]

module _ (f : ℕ → Bool) where
  all_rotated : (i : ℕ) (xs : List ℕ) → all f (rotated i xs) ≡ all f xs
  all_rotated i xs = all_swap f (drop i xs) (take i xs) ∙ ap (all f) (take-append-drop i xs)

  front_more : (xs ys : List ℕ) → front f xs ≤ front f (xs ++ ys)
  front_more xs ys =
      let p = front_append f xs ys in
      elim (cases_Bool (all f xs)) [
        | inl e ↦ let q : front f (xs ++ ys) ≡ length xs + front f ys = rw e at p in omega (arith, front_all f xs e)
        | inr e ↦ let q : front f (xs ++ ys) ≡ front f xs = rw e at p in omega arith
      ]

  front_stop : (xs ys : List ℕ) → all f xs ≡ false → front f (xs ++ ys) ≡ front f xs
  front_stop xs ys e = front_append f xs ys ∙ rw e

  longest_drop : (xs : List ℕ) (i : ℕ) → front f (drop i xs) ≤ longest f xs
  unfolding longest
  longest_drop xs zero = front_longest f xs
  longest_drop [] (suc i) = front_longest f []
  longest_drop (x ∷ xs) (suc i) = omega (arith, longest_drop xs i)

  longest_most : (xs : List ℕ) (m : ℕ) → ((i : ℕ) → front f (drop i xs) ≤ m) → longest f xs ≤ m
  unfolding longest
  longest_most [] m h = omega arith
  longest_most (x ∷ xs) m h = omega (arith, h 0, longest_most xs m (λ i. h (suc i)))

  -- a list and itself, from a place on, is the list begun there, and some more
  begun_twice : (i : ℕ) (xs : List ℕ) → drop i xs ++ xs ≡ rotated i xs ++ drop i xs
  begun_twice i xs = ap (λ (ys : List ℕ). drop i xs ++ ys) (sym (take-append-drop i xs)) ∙ sym (append_assoc (drop i xs) (take i xs) (drop i xs))

  -- from the beginning of a list begun at a place
  abbrev begun : List ℕ → ℕ → ℕ
  begun xs i = front f (rotated i xs)

  at_most : (xs : List ℕ) (i : ℕ) → i < length xs → begun xs i ≤ longest f (xs ++ xs)
  at_most xs i h =
      let e : front f (drop i (xs ++ xs)) ≡ front f (rotated i xs ++ drop i xs) = ap (front f) (drop-append-le i xs xs (omega arith) ∙ begun_twice i xs) in
      omega (arith, longest_drop (xs ++ xs) i, front_more (rotated i xs) (drop i xs))

  at_least : (xs : List ℕ) → all f xs ≡ false → (i : ℕ) → front f (drop i (xs ++ xs)) ≤ best (begun xs) (length xs)
  at_least xs e i =
      elim (cases_lt i (length xs)) [
        | inl h ↦
            let p : front f (drop i (xs ++ xs)) ≡ begun xs i = ap (front f) (drop-append-le i xs xs (omega arith) ∙ begun_twice i xs) ∙ front_stop (rotated i xs) (drop i xs) (all_rotated i xs ∙ e) in
            omega (arith, best_least (begun xs) (length xs) i h)
        | inr h ↦
            let k : length xs + (i - length xs) ≡ i = omega arith in
            let d : drop i (xs ++ xs) ≡ drop (i - length xs) xs = ap (λ (j : ℕ). drop j (xs ++ xs)) (sym k) ∙ (sym (drop-drop (i - length xs) (length xs) (xs ++ xs)) ∙ ap (drop (i - length xs)) (drop_at xs xs (length xs) refl)) in
            elim (cases_lt (i - length xs) (length xs)) [
              | inl m ↦ rw d (omega (arith, best_least (begun xs) (length xs) (i - length xs) m, front_more (drop (i - length xs) xs) (take (i - length xs) xs)))
              | inr m ↦ rw (d, drop_all (i - length xs) xs m) (omega (arith, front_le f []))
            ]
      ]

  best_all : (xs : List ℕ) → all f xs ≡ true → best (begun xs) (length xs) ≡ length xs
  best_all [] e = best_none (begun [])
  best_all (x ∷ xs) e =
      let z = front_all f (rotated 0 (x ∷ xs)) (all_rotated 0 (x ∷ xs) ∙ e) in
      let l = rotated_long 0 (x ∷ xs) in
      le_antisymm
      (best_most (begun (x ∷ xs)) (length (x ∷ xs)) (length (x ∷ xs)) (λ i h. omega (arith, front_le f (rotated i (x ∷ xs)), rotated_long i (x ∷ xs))))
      (let k = best_least (begun (x ∷ xs)) (length (x ∷ xs)) 0 (omega arith) in omega arith)

  -- round the end a list goes on as long as it is, or at the longest within, or over its end into its beginning
  pub round_is : (xs : List ℕ) → longest_round f xs ≡ pick (all f xs) (length xs) (max (longest f xs) (back f xs + front f xs))
  unfolding longest_round
  round_is xs =
      elim (cases_Bool (all f xs)) [
        | inl e ↦ rw e (best_all xs e)
        | inr e ↦
            let l = longest_append f xs xs in
            let a = best_most (begun xs) (length xs) (longest f (xs ++ xs)) (λ i h. at_most xs i h) in
            let b = longest_most (xs ++ xs) (best (begun xs) (length xs)) (at_least xs e) in
            rw e (omega arith)
      ]

-- turned, it goes on as long round its end
pub round_reversed : (f : ℕ → Bool) (xs : List ℕ) → longest_round f (reversed xs) ≡ longest_round f xs
round_reversed f xs =
    let swap : back f (reversed xs) + front f (reversed xs) ≡ back f xs + front f xs = ap (λ (k : ℕ). k + back f xs) (ap (front f) (reversed_twice xs)) ∙ omega arith in
    round_is f (reversed xs) ∙ (rw (all_reversed f xs, length_reversed xs, longest_reversed f xs, swap) (sym (round_is f xs)))

-- what a test passes at a list's numbers, and at places of the list that goes on for ever
pub passes_front : (f g : ℕ → Bool) (zs : List ℕ) (c : ℕ) → ((k : ℕ) → k < length zs → g (c + k) ≡ f (get_or zs k 0)) → passes g c (length zs) ≡ front f zs
unfolding passes front
passes_front f g [] c h = refl
passes_front f g (z ∷ zs) c h =
    let o : c + 0 ≡ c = omega arith in
    let e : g c ≡ f z = rw o at (h 0 (omega arith)) in
    let ih = passes_front f g zs (suc c) (λ k l. let y : suc c + k ≡ c + suc k = omega arith in rw y (h (suc k) (omega arith))) in
    rw (e, ih)

pub passes_round : (f : ℕ → Bool) (xs : List ℕ) (n i : ℕ) → n ≡ length xs → i < n → passes (λ q. f (get_or xs (q % n) 0)) i n ≡ front f (rotated i xs)
passes_round f xs n i e h =
    ap (passes (λ q. f (get_or xs (q % n) 0)) i) (e ∙ sym (rotated_long i xs))
    ∙ passes_front f (λ q. f (get_or xs (q % n) 0)) (rotated i xs) i
    (λ k l. ap f (sym (get_or_rotated i k xs (omega arith) (omega (arith, rotated_long i xs)) ∙ ap (λ (m : ℕ). get_or xs ((i + k) % m) 0) (sym e))))

-- runs of a list that goes on for ever, counted up to its length
pub best_round : (f : ℕ → Bool) (xs : List ℕ) (n : ℕ) → n ≡ length xs → best (λ i. passes (λ q. f (get_or xs (q % n) 0)) i n) n ≡ longest_round f xs
unfolding longest_round
best_round f xs n e =
    best_alike (λ i. passes (λ q. f (get_or xs (q % n) 0)) i n) (λ i. front f (rotated i xs)) n (λ i h. passes_round f xs n i e h)
    ∙ ap (best (λ i. front f (rotated i xs))) e

front_alike : (f g : ℕ → Bool) (zs : List ℕ) → ((k : ℕ) → k < length zs → f (get_or zs k 0) ≡ g (get_or zs k 0)) → front f zs ≡ front g zs
unfolding front
front_alike f g [] h = refl
front_alike f g (z ∷ zs) h = rw (h 0 (omega arith), front_alike f g zs (λ k l. h (suc k) (omega arith)))

-- only the numbers of the list count
pub round_alike : (f g : ℕ → Bool) (xs : List ℕ) → ((k : ℕ) → k < length xs → f (get_or xs k 0) ≡ g (get_or xs k 0)) → longest_round f xs ≡ longest_round g xs
unfolding longest_round
round_alike f g xs h =
    best_alike (λ i. front f (rotated i xs)) (λ i. front g (rotated i xs)) (length xs)
    (λ i l. front_alike f g (rotated i xs) (λ k m.
    let n : k < length xs = omega (arith, rotated_long i xs) in
    rw (get_or_rotated i k xs l n) (h ((i + k) % length xs) (mod-lt (i + k) (omega arith)))))

-- the longest is no longer than the list; it is somewhere; and none is longer
abbrev pub GoesRound : (ℕ → Bool) → List ℕ → ℕ → ℕ → Type 0
GoesRound f xs i k = (j : ℕ) → j < k → f (get_or xs ((i + j) % length xs) 0) ≡ true

pub round_told : (f : ℕ → Bool) (xs : List ℕ) → 0 < length xs
    → (longest_round f xs ≤ length xs)
    × ((i : ℕ) × (i < length xs) × GoesRound f xs i (longest_round f xs))
    × ((i k : ℕ) → i < length xs → k ≤ length xs → GoesRound f xs i k → k ≤ longest_round f xs)
round_told f xs h =
    let n : ℕ = length xs in
    let G : ℕ → Bool = λ q. f (get_or xs (q % n) 0) in
    let P : ℕ → ℕ = λ i. passes G i n in
    let e : best P n ≡ longest_round f xs = best_round f xs n refl in
    let k = best_some P n h in
    let most : best P n ≤ n = best_most P n n (λ i l. passes_most G i n) in (
      omega arith,
      (k.0, k.1, λ j l. passes_all G k.0 n j (omega (arith, k.2))),
      λ i m l few all. omega (arith, best_least P n i l, passes_least G i n m few all),
    )
