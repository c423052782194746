-- The topmost as it is chosen is the topmost that there is, and what is told of layers may be said. Assumes nothing.
use Rattle.std.proofs.Common.{◌≡◌, ℕ, zero, suc, ◌+◌, ◌<◌, ◌≤◌, Bool, true, false, ◌&&◌, ltb, map, get_or, Some, None, Option, sym, refl, ap, ◌∙◌, subst, ap₂, inl, inr, arith}
use mathlib.Core.Path.{fun_ext}
use Rattle.std.specs.List.{range_with_len}
use Rattle.std.proofs.lemmas.List.FromFn.{length-map-range_with_len, get_or-map-range_with_len, fill_by_all}
use Rattle.std.proofs.lemmas.List.{get_or_past}
use Rattle.std.proofs.lemmas.Bool.{cases_Bool, cases_lt, cases_order, cases_eq, and_parts, and_from, lt-ltb, ltb-true, both_ways, false≢true}
use Rattle.weave.specs.Rows.{written, long, below}
use Rattle.weave.specs.Cloth.{Draft, LieOver, HangsTogether, by_shafts, among, shaft_of, treadle_of}
use Rattle.weave.specs.Calls.{Limits, Desk, hangs, together, over_all, may_say}
use Rattle.weave.proofs.Cloth.{shaft_below, treadle_below}
use Rattle.weave.proofs.Reach.{reached_self, reached_on}
use Rattle.weave.proofs.Rows.{below_more}
use Rattle.weave.proofs.Layers.{needs, is_used, used_shaft, used_treadle, closed_lies}
use Rattle.lent.specs.Bits.{bit, bits_of}
use Rattle.lent.proofs.Bits.{length_bits, bit_at}
use Rattle.layering.specs.Needs.{needed, how_many, how_many_used}
use Rattle.layering.specs.Layers.{Lacks, Topmost}
use Rattle.layering.specs.Topmost.{or_smaller, smallest, lacking, topmost_of, layer_of, layers_told}
use Rattle.layering.proofs.Choice as choice

module _ (f : ℕ → Bool) (g : ℕ → ℕ) where
  -- the first of the smallest below n that pass, or none passes
  pub record First (n x : ℕ) : Type 0 where
    pub inside : x < n
    pub passes : f x ≡ true
    pub least : (y : ℕ) → y < n → f y ≡ true → g x ≤ g y
    pub first : (y : ℕ) → y < x → f y ≡ true → g x < g y

  abbrev pub Smallest : ℕ → Option ℕ → Type 0
  Smallest n None = (y : ℕ) → y < n → f y ≡ false
  Smallest n (Some x) = First n x

  one_more : (n : ℕ) (o : Option ℕ) → Smallest n o → Smallest (suc n) (or_smaller f g o n)
  one_more n None none =
      elim (cases_Bool (f n)) [
        | inl e ↦
            rw e
            (record {
              inside = omega arith;
              passes = e;
              least = λ y l p. elim (cases_eq y n) [ inl q ↦ rw q (omega arith) | inr q ↦ absurd (both_ways (f y) (none y (omega arith)) p) ];
              first = λ y l p. absurd (both_ways (f y) (none y l) p);
            })
        | inr e ↦ rw e (λ y l. elim (cases_eq y n) [ inl q ↦ rw q e | inr q ↦ none y (omega arith) ])
      ]
  one_more n (Some x) is =
      elim (cases_Bool (f n && ltb (g n) (g x))) [
        | inl e ↦
            let b = and_parts (f n) (ltb (g n) (g x)) e in
            let less = ltb-true (g n) (g x) b.1 in
            rw e
            (record {
              inside = omega arith;
              passes = b.0;
              least = λ y l p. elim (cases_eq y n) [ inl q ↦ rw q (omega arith) | inr q ↦ omega (arith, is.least y (omega arith) p) ];
              first = λ y l p. omega (arith, is.least y l p);
            })
        | inr e ↦
            rw e
            (record {
              inside = omega (arith, is.inside);
              passes = is.passes;
              least = λ y l p.
                  elim (cases_eq y n) [
                    | inl q ↦
                        elim (cases_lt (g n) (g x)) [
                          | inl h ↦ absurd (both_ways (f n && ltb (g n) (g x)) e (and_from (f n) (ltb (g n) (g x)) (rw q at p) (lt-ltb (g n) (g x) h)))
                          | inr h ↦ rw q h
                        ]
                    | inr q ↦ is.least y (omega arith) p
                  ];
              first = is.first;
            })
      ]

  pub smallest_is : (n : ℕ) → Smallest n (smallest f g n)
  unfolding smallest
  smallest_is zero = λ y l. absurd (omega arith)
  smallest_is (suc n) = one_more n (smallest f g n) (smallest_is n)

  -- there is no more than one
  pub smallest_one : (n x : ℕ) (o : Option ℕ) → First n x → Smallest n o → o ≡ Some x
  smallest_one n x None is none = absurd (both_ways (f x) (none x is.inside) is.passes)
  smallest_one n x (Some y) is so =
      ap Some
      (elim (cases_order y x) [
        | inl e ↦ e
        | inr o ↦
            elim o [
              | inl l ↦ absurd (let a = is.first y l so.passes in let b = so.least x is.inside is.passes in omega arith)
              | inr l ↦ absurd (let a = so.first x l is.passes in let b = is.least y so.inside so.passes in omega arith)
            ]
      ])

-- lists of the same numbers by tests that agree
pub same_listed : (f : ℕ → Bool) (n w : ℕ) → ((i : ℕ) → i < n → bit w i ≡ f i) → bits_of n w ≡ map f (range_with_len 0 n)
same_listed f n w same = fill_by_all f (bits_of n w) n false (length_bits n w) (λ i l. bit_at n w i l ∙ same i l)

-- what is chosen of a list is in it, and passes
listed_inside : (f : ℕ → Bool) (n i : ℕ) → get_or (map f (range_with_len 0 n)) i false ≡ true → i < n
listed_inside f n i e =
    elim (cases_lt i n) [
      | inl l ↦ l
      | inr l ↦ absurd (false≢true (sym (get_or_past (map f (range_with_len 0 n)) i false (rw (length-map-range_with_len f 0 n) l)) ∙ e))
    ]

listed_true : (f : ℕ → Bool) (n i : ℕ) → get_or (map f (range_with_len 0 n)) i false ≡ true → f i ≡ true
listed_true f n i e = sym (get_or-map-range_with_len f 0 n i i false (listed_inside f n i e) (omega arith)) ∙ e

-- within the limits that the rows keep to
module _ (d : Draft) (m n : ℕ) (hm : m ≤ 64) (hn : n ≤ 64) (bm : below m d.threading ≡ true) (bn : below n d.treadling ≡ true)
    (hc : 0 < long d.threading) (hr : 0 < long d.treadling) where
  bc : below 64 d.threading ≡ true
  bc = below_more m 64 d.threading hm bm

  br : below 64 d.treadling ≡ true
  br = below_more n 64 d.treadling hn bn

  lacks_lacking : (x : ℕ) → is_used d 64 x ≡ true → Lacks d x → lacking d x ≡ true
  lacks_lacking x u l = and_from (is_used d 64 x) (ltb (how_many d x) (how_many_used d)) u (lt-ltb (how_many d x) (how_many_used d) (choice.lacks_fewer d bc br x u l))

  -- what passes is used and lacks something
  lacking_parts : (x : ℕ) → lacking d x ≡ true → (is_used d 64 x ≡ true) × Lacks d x
  lacking_parts x e =
      let b = and_parts (is_used d 64 x) (ltb (how_many d x) (how_many_used d)) e in
      (b.0, choice.fewer_lacks d bc br x b.0 (ltb-true (how_many d x) (how_many_used d) b.1))

  -- the threads of what something needs that lacks something
  needed_lies : (x : ℕ) → lacking d x ≡ true → LieOver d (record { ends = λ c. needed d x (shaft_of d c); picks = λ r. needed d x (64 + treadle_of d r) })
  needed_lies x e =
      let b = lacking_parts x e in
      closed_lies 64 64 d hc hr bc br (needed d x) (reached_on (needs d 64) 128 x) (x, b.0, reached_self (needs d 64) 128 x) b.1

  chosen : Smallest (lacking d) (how_many d) 128 (topmost_of d)
  unfolding topmost_of
  chosen = smallest_is (lacking d) (how_many d) 128

  -- the topmost is told
  pub topmost_told : (ss ts : ℕ) → Topmost d ss ts → over_all (bits_of m ss) (bits_of n ts) ≡ layers_told m n d
  unfolding layers_told
  topmost_told ss ts top =
      let x = top.of in
      let is : First (lacking d) (how_many d) 128 x =
      record {
        inside = choice.used_inside d bc br x top.used;
        passes = lacks_lacking x top.used top.lacks;
        least = λ y l e. let b = lacking_parts y e in top.fewest y b.0 b.1;
        first = λ y l e. let b = lacking_parts y e in top.first y l b.0 b.1;
      } in
      ap₂ over_all (same_listed (needed d x) m ss (λ s l. shaft s (omega arith))) (same_listed (λ t. needed d x (64 + t)) n ts (λ t l. top.treadles t))
      ∙ ap (layer_of m n d) (sym (smallest_one (lacking d) (how_many d) 128 x (topmost_of d) is chosen))
    where
      with_true : (t : Bool) → (t && true) ≡ t
      with_true true = refl
      with_true false = refl

      shaft : (s : ℕ) → s < 64 → bit ss s ≡ needed d top.of s
      shaft s l = top.shafts s ∙ (ap (λ (t : Bool). needed d top.of s && t) (lt-ltb s 64 l) ∙ with_true (needed d top.of s))

  -- of cloth that hangs together that is told
  pub together_told : HangsTogether d → together ≡ layers_told m n d
  unfolding layers_told
  together_told hung = go (topmost_of d) chosen
    where
      go : (o : Option ℕ) → Smallest (lacking d) (how_many d) 128 o → together ≡ layer_of m n d o
      go None is = refl
      go (Some x) is = absurd (hung _ (needed_lies x is.passes))

  -- where nothing lacks anything cloth hangs together
  none_hangs : ((y : ℕ) → y < 128 → lacking d y ≡ false) → HangsTogether d
  none_hangs none =
      choice.hangs d bc br hc hr
      (λ x u.
      elim (cases_lt (how_many d x) (how_many_used d)) [
        | inl l ↦
            absurd
            (both_ways (lacking d x) (none x (choice.used_inside d bc br x u)) (and_from (is_used d 64 x) (ltb (how_many d x) (how_many_used d)) u (lt-ltb (how_many d x) (how_many_used d) l)))
        | inr l ↦ l
      ])

  -- or else it is shown
  listed_lies : (x : ℕ) → lacking d x ≡ true → LieOver d (by_shafts d (map (needed d x) (range_with_len 0 m)) (map (λ t. needed d x (64 + t)) (range_with_len 0 n)))
  listed_lies x e =
      subst (λ ps. LieOver d (record { ends = λ c. get_or (map (needed d x) (range_with_len 0 m)) (shaft_of d c) false; picks = ps }))
      (fun_ext (λ r. sym (get_or-map-range_with_len (λ t. needed d x (64 + t)) 0 n (treadle_of d r) (treadle_of d r) false (treadle_below n d r bn hr) (omega arith))))
      (subst (λ es. LieOver d (record { ends = es; picks = λ r. needed d x (64 + treadle_of d r) }))
      (fun_ext (λ c. sym (get_or-map-range_with_len (needed d x) 0 m (shaft_of d c) (shaft_of d c) false (shaft_below m d c bm hc) (omega arith))))
      (needed_lies x e))

  shafts_used : (x s : ℕ) → lacking d x ≡ true → get_or (map (needed d x) (range_with_len 0 m)) s false ≡ true → among s (written d.threading) ≡ true
  shafts_used x s e h =
      let small : s < m = listed_inside (needed d x) m s h in
      sym (used_shaft d 64 s (omega arith)) ∙ choice.needed_used d bc br x (lacking_parts x e).0 s (listed_true (needed d x) m s h)

  treadles_used : (x t : ℕ) → lacking d x ≡ true → get_or (map (λ t. needed d x (64 + t)) (range_with_len 0 n)) t false ≡ true → among t (written d.treadling) ≡ true
  treadles_used x t e h =
      sym (used_treadle d 64 t) ∙ choice.needed_used d bc br x (lacking_parts x e).0 (64 + t) (listed_true (λ t. needed d x (64 + t)) n t h)

-- what is told of layers may be said, within the limits of a desk
pub layers_said : (l : Limits) (d : Desk) → l.shafts ≤ 64 → l.treadles ≤ 64 → below l.shafts d.now.threading ≡ true → below l.treadles d.now.treadling ≡ true
    → 0 < long d.now.threading → 0 < long d.now.treadling → may_say l d hangs (layers_told l.shafts l.treadles d.now)
unfolding layers_told may_say
layers_said l d hm hn bm bn hc hr = go (topmost_of d.now) (chosen d.now l.shafts l.treadles hm hn bm bn hc hr)
  where
    go : (o : Option ℕ) → Smallest (lacking d.now) (how_many d.now) 128 o → may_say l d hangs (layer_of l.shafts l.treadles d.now o)
    go None none = none_hangs d.now l.shafts l.treadles hm hn bm bn hc hr none
    go (Some x) is = (
      length-map-range_with_len (needed d.now x) 0 l.shafts,
      length-map-range_with_len (λ t. needed d.now x (64 + t)) 0 l.treadles,
      listed_lies d.now l.shafts l.treadles hm hn bm bn hc hr x is.passes,
      λ s e. shafts_used d.now l.shafts l.treadles hm hn bm bn hc hr x s is.passes e,
      λ t e. treadles_used d.now l.shafts l.treadles hm hn bm bn hc hr x t is.passes e,
    )
