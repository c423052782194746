-- A small draft is looked at whole, all sets of its threads; and four drafts that weavers know. Assumes nothing.
use Rattle.std.proofs.Common.{◌≡◌, ℕ, zero, suc, ◌%◌, ◌<◌, Bool, true, false, not, ◌&&◌, ◌||◌, List, [], ◌∷◌, map, length, get_or, sym, refl, ap, ◌∙◌, subst, inl, inr, mod-lt, arith}
use mathlib.Core.Path.{fun_ext}
use native.Mathlib.Nat.{mod-mod}
use Rattle.std.specs.List.{range_with_len}
use Rattle.std.proofs.lemmas.List.FromFn.{length-map-range_with_len, get_or-map-range_with_len}
use Rattle.std.proofs.lemmas.Bool.{false≢true, both_ways, and_parts, or_cases, or_parts, not-true, not-false}
use Rattle.weave.specs.Rows.{written, long, up, down}
use Rattle.weave.specs.Cloth.{Draft, LieOver, HangsTogether, warp_over, shaft_of, treadle_of, end_float, pick_float, over_picks, over_ends, along_ends, along_picks, same_on, same_by, some_same, different}
use Rattle.weave.proofs.Rows.{bound, below_bound}
use Rattle.weave.proofs.Counts.{any, any_where, any_none}
use Rattle.weave.proofs.Layers.{hangs_or_apart}
use Rattle.laws.specs.Examples.{Told, plain, twill, double, joined, PlainWeave, EvenTwill, DoubleCloth, JoinedCloth}

-- whether a test passes for all sets of n
unfoldable pub all_sets : ℕ → (List Bool → Bool) → Bool
all_sets zero test = test []
all_sets (suc n) test = all_sets n (λ xs. test (true ∷ xs)) && all_sets n (λ xs. test (false ∷ xs))

all_sets_at : (n : ℕ) (test : List Bool → Bool) → all_sets n test ≡ true → (xs : List Bool) → length xs ≡ n → test xs ≡ true
unfolding all_sets
all_sets_at zero test e [] l = e
all_sets_at zero test e (x ∷ xs) l = absurd (omega arith)
all_sets_at (suc n) test e [] l = absurd (omega arith)
all_sets_at (suc n) test e (true ∷ xs) l =
    all_sets_at n (λ ys. test (true ∷ ys)) (and_parts (all_sets n (λ ys. test (true ∷ ys))) (all_sets n (λ ys. test (false ∷ ys))) e).0 xs (omega arith)
all_sets_at (suc n) test e (false ∷ xs) l =
    all_sets_at n (λ ys. test (false ∷ ys)) (and_parts (all_sets n (λ ys. test (true ∷ ys))) (all_sets n (λ ys. test (false ∷ ys))) e).1 xs (omega arith)

-- an end and a pick of which one is among some threads, and is not over the other
unfoldable pub crossed : Bool → Bool → Bool → Bool
crossed true false over = not over
crossed false true over = over
crossed true true over = false
crossed false false over = false

crossed_not : (a b over : Bool) → crossed a b over ≡ true → (a ≡ true → b ≡ false → over ≡ true) → (a ≡ false → b ≡ true → over ≡ false) → ⊥
unfolding crossed
crossed_not true true over e f g = false≢true e
crossed_not true false over e f g = both_ways over (not-true over e) (f refl refl)
crossed_not false true over e f g = both_ways over (g refl refl) e
crossed_not false false over e f g = false≢true e

crossed_over : (a b over : Bool) → crossed a b over ≡ false → a ≡ true → b ≡ false → over ≡ true
unfolding crossed
crossed_over true true over e p q = absurd (false≢true (sym q))
crossed_over true false over e p q = not-false over e
crossed_over false b over e p q = absurd (false≢true p)

crossed_under : (a b over : Bool) → crossed a b over ≡ false → a ≡ false → b ≡ true → over ≡ false
unfolding crossed
crossed_under true b over e p q = absurd (false≢true (sym p))
crossed_under false true over e p q = e
crossed_under false false over e p q = absurd (false≢true q)

-- threads of the draft don't lie over all others: some cross, or there are none, or no others
unfoldable pub fails : Draft → (ℕ → Bool) → (ℕ → Bool) → Bool
fails d ends picks =
    any (λ c. any (λ r. crossed (ends c) (picks r) (warp_over d r c)) (long d.treadling)) (long d.threading)
    || (not (any ends (long d.threading) || any picks (long d.treadling))
    || not (any (λ c. not (ends c)) (long d.threading) || any (λ r. not (picks r)) (long d.treadling)))

never_any : (f : ℕ → Bool) (n : ℕ) → 0 < n → ((c : ℕ) → f (c % n) ≡ f c) → any f n ≡ false → (c : ℕ) → f c ≡ false
never_any f n h again e c = sym (again c) ∙ any_none f n e (c % n) (mod-lt c h)

-- threads that come again as the draft does
module _ (d : Draft) (hc : 0 < long d.threading) (hr : 0 < long d.treadling) (ends picks : ℕ → Bool)
    (again_c : (c : ℕ) → ends (c % long d.threading) ≡ ends c) (again_r : (r : ℕ) → picks (r % long d.treadling) ≡ picks r) where
  fails_not : fails d ends picks ≡ true → LieOver d (record { ends = ends; picks = picks }) → ⊥
  unfolding fails LieOver
  fails_not e o =
      elim (or_cases _ _ e) [
        | inl x ↦
            let w = any_where (λ c. any (λ r. crossed (ends c) (picks r) (warp_over d r c)) (long d.treadling)) (long d.threading) x in
            let v = any_where (λ r. crossed (ends w.0) (picks r) (warp_over d r w.0)) (long d.treadling) w.2 in
            crossed_not (ends w.0) (picks v.0) (warp_over d v.0 w.0) v.2 (o.0 v.0 w.0) (o.1 v.0 w.0)
        | inr y ↦
            elim (or_cases _ _ y) [
              | inl x ↦
                  let none = or_parts (any ends (long d.threading)) (any picks (long d.treadling)) (not-true _ x) in
                  elim o.2 [
                    | inl w ↦ both_ways (ends w.0) (never_any ends (long d.threading) hc again_c none.0 w.0) w.1
                    | inr w ↦ both_ways (picks w.0) (never_any picks (long d.treadling) hr again_r none.1 w.0) w.1
                  ]
              | inr x ↦
                  let none = or_parts (any (λ c. not (ends c)) (long d.threading)) (any (λ r. not (picks r)) (long d.treadling)) (not-true _ x) in
                  elim o.3 [
                    | inl w ↦ both_ways (ends w.0) w.1 (not-false (ends w.0) (never_any (λ c. not (ends c)) (long d.threading) hc (λ c. ap not (again_c c)) none.0 w.0))
                    | inr w ↦ both_ways (picks w.0) w.1 (not-false (picks w.0) (never_any (λ r. not (picks r)) (long d.treadling) hr (λ r. ap not (again_r r)) none.1 w.0))
                  ]
            ]
      ]

  -- and where they pass they lie over all others
  lies_looked : fails d ends picks ≡ false → LieOver d (record { ends = ends; picks = picks })
  unfolding fails LieOver
  lies_looked e =
      let b = or_parts _ _ e in
      let g = or_parts _ _ b.1 in
      let none : (r c : ℕ) → crossed (ends c) (picks r) (warp_over d r c) ≡ false =
      λ r c.
      rw (again_c c, again_r r, mod-mod c (long d.threading), mod-mod r (long d.treadling))
      at (any_none (λ q. crossed (ends (c % long d.threading)) (picks q) (warp_over d q (c % long d.threading))) (long d.treadling)
      (any_none (λ q. any (λ s. crossed (ends q) (picks s) (warp_over d s q)) (long d.treadling)) (long d.threading) b.0 (c % long d.threading) (mod-lt c hc))
      (r % long d.treadling) (mod-lt r hr)) in (
        λ r c p q. crossed_over (ends c) (picks r) (warp_over d r c) (none r c) p q,
        λ r c p q. crossed_under (ends c) (picks r) (warp_over d r c) (none r c) p q,
        elim (or_cases _ _ (not-false _ g.0)) [
          | inl x ↦ let w = any_where ends (long d.threading) x in inl (w.0, w.2)
          | inr x ↦ let w = any_where picks (long d.treadling) x in inr (w.0, w.2)
        ],
        elim (or_cases _ _ (not-false _ g.1)) [
          | inl x ↦ let w = any_where (λ c. not (ends c)) (long d.threading) x in inl (w.0, not-true (ends w.0) w.2)
          | inr x ↦ let w = any_where (λ r. not (picks r)) (long d.treadling) x in inr (w.0, not-true (picks w.0) w.2)
        ],
      )

-- all sets of the draft's ends and picks, each of which comes again and again
unfoldable pub looked : Draft → Bool
looked d =
    all_sets (long d.threading) (λ es. all_sets (long d.treadling) (λ ps. fails d (λ c. get_or es (c % long d.threading) false) (λ r. get_or ps (r % long d.treadling) false)))

-- the threads of one repeat that a test of shafts, or treadles, picks out
threads_at : (f : ℕ → Bool) (n : ℕ) → 0 < n → ((c : ℕ) → f (c % n) ≡ f c) → (c : ℕ) → f c ≡ get_or (map f (range_with_len 0 n)) (c % n) false
threads_at f n h again c = sym (get_or-map-range_with_len f 0 n (c % n) (c % n) false (mod-lt c h) (omega arith) ∙ again c)

pub hangs_looked : (d : Draft) → 0 < long d.threading → 0 < long d.treadling → looked d ≡ true → HangsTogether d
unfolding looked
hangs_looked d hc hr e =
    elim (hangs_or_apart (bound d.threading) (bound d.treadling) d hc hr (below_bound d.threading) (below_bound d.treadling)) [
      | inl hangs ↦ hangs
      | inr w ↦
          let m : ℕ = long d.threading in
          let n : ℕ = long d.treadling in
          let on : ℕ → Bool = λ c. get_or w.0 (shaft_of d c) false in
          let by : ℕ → Bool = λ r. get_or w.1 (treadle_of d r) false in
          let es : List Bool = map on (range_with_len 0 m) in
          let ps : List Bool = map by (range_with_len 0 n) in
          let fail =
          all_sets_at n (λ qs. fails d (λ c. get_or es (c % m) false) (λ r. get_or qs (r % n) false))
          (all_sets_at m (λ fs. all_sets n (λ qs. fails d (λ c. get_or fs (c % m) false) (λ r. get_or qs (r % n) false))) e es (length-map-range_with_len on 0 m))
          ps (length-map-range_with_len by 0 n) in
          let lies : LieOver d (record { ends = λ c. get_or es (c % m) false; picks = λ r. get_or ps (r % n) false }) =
          subst (λ (f : ℕ → Bool). LieOver d (record { ends = f; picks = λ r. get_or ps (r % n) false })) (fun_ext (threads_at on m hc (λ c. rw (mod-mod c m))))
          (subst (λ (g : ℕ → Bool). LieOver d (record { ends = on; picks = g })) (fun_ext (threads_at by n hr (λ r. rw (mod-mod r n)))) w.4) in
          absurd
          (fails_not d hc hr (λ c. get_or es (c % m) false) (λ r. get_or ps (r % n) false) (λ c. rw (mod-mod c m)) (λ r. rw (mod-mod r n)) fail lies)
    ]

told_plain : Told plain 1 1 1 1 2 2
unfolding written long up down end_float pick_float over_picks over_ends along_ends along_picks same_on same_by some_same different
told_plain = record { of_ends_face = refl; of_ends_back = refl; of_picks_face = refl; of_picks_back = refl; fewest_shafts = refl; fewest_treadles = refl }

told_twill : Told twill 2 2 2 2 4 4
unfolding written long up down end_float pick_float over_picks over_ends along_ends along_picks same_on same_by some_same different
told_twill = record { of_ends_face = refl; of_ends_back = refl; of_picks_face = refl; of_picks_back = refl; fewest_shafts = refl; fewest_treadles = refl }

told_double : Told double 3 3 3 3 4 4
unfolding written long up down end_float pick_float over_picks over_ends along_ends along_picks same_on same_by some_same different
told_double = record { of_ends_face = refl; of_ends_back = refl; of_picks_face = refl; of_picks_back = refl; fewest_shafts = refl; fewest_treadles = refl }

told_joined : Told joined 3 3 3 3 4 4
unfolding written long up down end_float pick_float over_picks over_ends along_ends along_picks same_on same_by some_same different
told_joined = record { of_ends_face = refl; of_ends_back = refl; of_picks_face = refl; of_picks_back = refl; fewest_shafts = refl; fewest_treadles = refl }

pub plain_weave : PlainWeave
unfolding written long up down looked all_sets fails crossed any
plain_weave = (told_plain, hangs_looked plain (omega arith) (omega arith) refl)

pub even_twill : EvenTwill
unfolding written long up down looked all_sets fails crossed any
even_twill = (told_twill, hangs_looked twill (omega arith) (omega arith) refl)

pub joined_cloth : JoinedCloth
unfolding written long up down looked all_sets fails crossed any
joined_cloth = (told_joined, hangs_looked joined (omega arith) (omega arith) refl)

pub double_cloth : DoubleCloth
unfolding written long up down fails crossed any
double_cloth =
    let upper : List Bool = true ∷ false ∷ true ∷ false ∷ [] in
    (told_double, lies_looked double (omega arith) (omega arith) (λ c. get_or upper (shaft_of double c) false) (λ r. get_or upper (treadle_of double r) false) (λ c. rw (mod-mod c 4)) (λ r. rw (mod-mod r 4)) refl)
