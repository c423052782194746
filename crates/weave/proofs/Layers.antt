-- When cloth hangs together, by shafts and treadles: which must lie over all others with which. Assumes nothing.
use Rattle.std.proofs.Common.{◌≡◌, ℕ, ◌+◌, ◌-◌, ◌%◌, ◌<◌, Bool, true, false, not, ◌&&◌, eqb, ltb, ◌⊎◌, List, map, length, get_or, sym, refl, ap, ◌∙◌, inl, inr, arith}
use Rattle.std.specs.List.{range_with_len}
use Rattle.std.proofs.lemmas.List.FromFn.{length-map-range_with_len, get_or-map-range_with_len}
use Rattle.std.proofs.lemmas.List.{get_or_past}
use Rattle.std.proofs.lemmas.Bool.{false≢true, both_ways, cases_lt, lt-ltb, le-ltb, and_parts, and_from, not-true, not_from_false, eqb-true, eq-eqb}
use Rattle.weave.specs.Rows.{pick, Row, written, long, below}
use Rattle.weave.specs.Cloth.{Draft, Some, LieOver, HangsTogether, lifts, warp_over, shaft_of, treadle_of, by_shafts, among}
use Rattle.weave.proofs.Rows.{bound, below_bound}
use Rattle.weave.proofs.Cloth.{shaft_below, treadle_below, used_at, used_where, used_below}
use Rattle.weave.proofs.Counts.{find₂}
use Rattle.weave.proofs.Reach.{Closed, reached, reached_self, reached_on, reached_kept}

-- some used shafts and treadles whose threads lie over all others, as sets of so many
abbrev pub Apart : ℕ → ℕ → Draft → Type 0
Apart shafts treadles d =
    (ss : List Bool) × (ts : List Bool) × (length ss ≡ shafts) × (length ts ≡ treadles) × LieOver d (by_shafts d ss ts)
    × ((s : ℕ) → get_or ss s false ≡ true → among s (written d.threading) ≡ true) × ((t : ℕ) → get_or ts t false ≡ true → among t (written d.treadling) ≡ true)

-- a shaft that is used needs each used treadle that doesn't lift it, and a treadle each used shaft that it lifts: where a thread of the one lies over all others, all threads of the other must
abbrev pub shaft_needs : Draft → ℕ → ℕ → Bool
shaft_needs d s t = (among s (written d.threading) && among t (written d.treadling)) && not (lifts d.tied t s)

abbrev pub treadle_needs : Draft → ℕ → ℕ → Bool
treadle_needs d t s = (among s (written d.threading) && among t (written d.treadling)) && lifts d.tied t s

-- what can't be otherwise is so
deny : (b : Bool) → (b ≡ false → ⊥) → b ≡ true
deny true f = refl
deny false f = absurd (f refl)

refute : (b : Bool) → (b ≡ true → ⊥) → b ≡ false
refute true f = absurd (f refl)
refute false f = refl

-- what a need says
pub shaft_needs_parts : (d : Draft) (s t : ℕ) → shaft_needs d s t ≡ true → (among s (written d.threading) ≡ true) × (among t (written d.treadling) ≡ true) × (lifts d.tied t s ≡ false)
shaft_needs_parts d s t e =
    let b = and_parts (among s (written d.threading) && among t (written d.treadling)) (not (lifts d.tied t s)) e in
    let c = and_parts (among s (written d.threading)) (among t (written d.treadling)) b.0 in
    (c.0, c.1, not-true (lifts d.tied t s) b.1)

pub treadle_needs_parts : (d : Draft) (t s : ℕ) → treadle_needs d t s ≡ true → (among s (written d.threading) ≡ true) × (among t (written d.treadling) ≡ true) × (lifts d.tied t s ≡ true)
treadle_needs_parts d t s e =
    let b = and_parts (among s (written d.threading) && among t (written d.treadling)) (lifts d.tied t s) e in
    let c = and_parts (among s (written d.threading)) (among t (written d.treadling)) b.0 in
    (c.0, c.1, b.1)

-- a used shaft or treadle that is in a set, or isn't
abbrev pub UsedThere : Draft → (ℕ → Bool) → (ℕ → Bool) → Bool → Type 0
UsedThere d ss ts there =
    ((s : ℕ) × (among s (written d.threading) ≡ true) × (ss s ≡ there)) ⊎ ((t : ℕ) × (among t (written d.treadling) ≡ true) × (ts t ≡ there))

-- a set of shafts and one of treadles with all that they need lie over all others, where something that is used is there, and something isn't
module _ (d : Draft) (hc : 0 < long d.threading) (hr : 0 < long d.treadling) (ss ts : ℕ → Bool) where
  pub needs_met : ((s t : ℕ) → shaft_needs d s t ≡ true → ss s ≡ true → ts t ≡ true) → ((t s : ℕ) → treadle_needs d t s ≡ true → ts t ≡ true → ss s ≡ true)
      → UsedThere d ss ts true → UsedThere d ss ts false
      → LieOver d (record { ends = λ c. ss (shaft_of d c); picks = λ r. ts (treadle_of d r) })
  unfolding LieOver
  needs_met shafts treadles some others = (
    λ r c p q.
        deny (warp_over d r c)
        (λ f. both_ways (ts (treadle_of d r)) q (shafts (shaft_of d c) (treadle_of d r) (and_from _ _ (crossing r c) (not_from_false (warp_over d r c) f)) p)),
    λ r c p q.
        refute (warp_over d r c)
        (λ f. both_ways (ss (shaft_of d c)) p (treadles (treadle_of d r) (shaft_of d c) (and_from _ _ (crossing r c) f) q)),
    thread true some,
    thread false others,
  )
    where
      crossing : (r c : ℕ) → (among (shaft_of d c) (written d.threading) && among (treadle_of d r) (written d.treadling)) ≡ true
      crossing r c = and_from _ _ (used_at d.threading c hc) (used_at d.treadling r hr)

      thread : (b : Bool) → UsedThere d ss ts b → ((c : ℕ) × (ss (shaft_of d c) ≡ b)) ⊎ ((r : ℕ) × (ts (treadle_of d r) ≡ b))
      thread b w =
          elim w [
            | inl v ↦ let x = used_where d.threading v.0 v.1 in inl (x.0, ap ss x.2 ∙ v.2)
            | inr v ↦ let y = used_where d.treadling v.0 v.1 in inr (y.0, ap ts y.2 ∙ v.2)
          ]

-- the same of shafts and treadles in one line, the shafts below A first: A + t is treadle t
unfoldable pub needs : Draft → ℕ → ℕ → ℕ → Bool
needs d A i j = pick (ltb i A) (not (ltb j A) && shaft_needs d i (j - A)) (ltb j A && treadle_needs d (i - A) j)

-- whether a shaft or treadle of the line is used
unfoldable pub is_used : Draft → ℕ → ℕ → Bool
is_used d A i = pick (ltb i A) (among i (written d.threading)) (among (i - A) (written d.treadling))

module _ (d : Draft) (A : ℕ) where
  treadle_place : (t : ℕ) → A + t - A ≡ t
  treadle_place t = omega arith

  pub used_shaft : (s : ℕ) → s < A → is_used d A s ≡ among s (written d.threading)
  unfolding is_used
  used_shaft s h = rw (lt-ltb s A h)

  pub used_treadle : (t : ℕ) → is_used d A (A + t) ≡ among t (written d.treadling)
  unfolding is_used
  used_treadle t = rw (le-ltb (A + t) A (omega arith), treadle_place t)

  pub needs_treadle : (s t : ℕ) → s < A → needs d A s (A + t) ≡ shaft_needs d s t
  unfolding needs
  needs_treadle s t h = rw (lt-ltb s A h, le-ltb (A + t) A (omega arith), treadle_place t)

  pub needs_shaft : (t s : ℕ) → s < A → needs d A (A + t) s ≡ treadle_needs d t s
  unfolding needs
  needs_shaft t s h = rw (lt-ltb s A h, le-ltb (A + t) A (omega arith), treadle_place t)

  -- there are no other needs
  pub needs_why : (i j : ℕ) → needs d A i j ≡ true
      → ((t : ℕ) × (i < A) × (j ≡ A + t) × (shaft_needs d i t ≡ true)) ⊎ ((t : ℕ) × (j < A) × (i ≡ A + t) × (treadle_needs d t j ≡ true))
  unfolding needs
  needs_why i j e =
      elim (cases_lt i A) [
        | inl h ↦
            let e' : (not (ltb j A) && shaft_needs d i (j - A)) ≡ true = rw (lt-ltb i A h) at e in
            let b = and_parts (not (ltb j A)) (shaft_needs d i (j - A)) e' in
            elim (cases_lt j A) [
              | inl k ↦ absurd (both_ways (ltb j A) (not-true (ltb j A) b.0) (lt-ltb j A k))
              | inr k ↦ inl (j - A, h, omega arith, b.1)
            ]
        | inr h ↦
            let e' : (ltb j A && treadle_needs d (i - A) j) ≡ true = rw (le-ltb i A h) at e in
            let b = and_parts (ltb j A) (treadle_needs d (i - A) j) e' in
            elim (cases_lt j A) [
              | inl k ↦ inr (i - A, k, omega arith, b.1)
              | inr k ↦ absurd (both_ways (ltb j A) (le-ltb j A k) b.0)
            ]
      ]

  pub needs_used : (i j : ℕ) → needs d A i j ≡ true → is_used d A j ≡ true
  needs_used i j e =
      elim (needs_why i j e) [
        | inl w ↦ rw w.2 (used_treadle w.0 ∙ (shaft_needs_parts d i w.0 w.3).1)
        | inr w ↦ used_shaft j w.1 ∙ (treadle_needs_parts d w.0 j w.3).0
      ]

-- in a draft with rows below A and B
module _ (A B : ℕ) (d : Draft) (hc : 0 < long d.threading) (hr : 0 < long d.treadling) (bc : below A d.threading ≡ true) (br : below B d.treadling ≡ true) where
  shaft_in : (c : ℕ) → among (shaft_of d c) (written d.threading) ≡ true
  shaft_in c = used_at d.threading c hc

  treadle_in : (r : ℕ) → among (treadle_of d r) (written d.treadling) ≡ true
  treadle_in r = used_at d.treadling r hr

  shaft_small : (c : ℕ) → shaft_of d c < A
  shaft_small c = shaft_below A d c bc hc

  -- a used one in the line is a shaft's or a treadle's
  used_line : (set : ℕ → Bool) (b : Bool) → ((i : ℕ) × (is_used d A i ≡ true) × (set i ≡ b)) → UsedThere d set (λ t. set (A + t)) b
  used_line set b w =
      elim (cases_lt w.0 A) [
        | inl h ↦ inl (w.0, sym (used_shaft d A w.0 h) ∙ w.1, w.2)
        | inr h ↦
            let e : w.0 ≡ A + (w.0 - A) = omega arith in
            inr (w.0 - A, sym (used_treadle d A (w.0 - A)) ∙ (ap (is_used d A) (sym e) ∙ w.1), ap set (sym e) ∙ w.2)
      ]

  -- a closed set lies over all others, where it has something that is used, and lacks something
  pub closed_lies : (set : ℕ → Bool) → Closed (needs d A) (A + B) set
      → ((i : ℕ) × (is_used d A i ≡ true) × (set i ≡ true)) → ((i : ℕ) × (is_used d A i ≡ true) × (set i ≡ false))
      → LieOver d (record { ends = λ c. set (shaft_of d c); picks = λ r. set (A + treadle_of d r) })
  closed_lies set closed some others =
      needs_met d hc hr set (λ t. set (A + t))
      (λ s t e h.
      let p = shaft_needs_parts d s t e in
      let small : s < A = used_below A d.threading s bc p.0 in
      closed s (A + t) (omega arith) (omega (arith, used_below B d.treadling t br p.1)) h (needs_treadle d A s t small ∙ e))
      (λ t s e h.
      let p = treadle_needs_parts d t s e in
      let small : s < A = used_below A d.threading s bc p.0 in
      closed (A + t) s (omega (arith, used_below B d.treadling t br p.1)) (omega arith) h (needs_shaft d A t s small ∙ e))
      (used_line set true some)
      (used_line set false others)

  -- among threads that lie over all others: one of a shaft's or a treadle's, and all of them
  abbrev Has : Some → ℕ → Type 0
  Has s i = ((c : ℕ) × (shaft_of d c ≡ i) × (s.ends c ≡ true)) ⊎ ((r : ℕ) × (A + treadle_of d r ≡ i) × (s.picks r ≡ true))

  abbrev HasAll : Some → ℕ → Type 0
  HasAll s i = ((c : ℕ) → shaft_of d c ≡ i → s.ends c ≡ true) × ((r : ℕ) → A + treadle_of d r ≡ i → s.picks r ≡ true)

  all-has : (s : Some) (i : ℕ) → is_used d A i ≡ true → HasAll s i → Has s i
  all-has s i u h =
      elim (used_line (λ j. eqb j i) true (i, u, eq-eqb i i refl)) [
        | inl v ↦
            let x = used_where d.threading v.0 v.1 in
            let q : shaft_of d x.0 ≡ i = x.2 ∙ eqb-true v.0 i v.2 in
            inl (x.0, q, h.0 x.0 q)
        | inr v ↦
            let y = used_where d.treadling v.0 v.1 in
            let q : A + treadle_of d y.0 ≡ i = ap (λ (t : ℕ). A + t) y.2 ∙ eqb-true (A + v.0) i v.2 in
            inr (y.0, q, h.1 y.0 q)
      ]

  -- what is needed must be among them, all of it
  needed : (s : Some) → LieOver d s → (i j : ℕ) → Has s i → needs d A i j ≡ true → HasAll s j
  unfolding LieOver
  needed s o i j has e =
      elim (needs_why d A i j e) [
        | inl w ↦
            let under : lifts d.tied w.0 i ≡ false = (shaft_needs_parts d i w.0 w.3).2 in
            elim has [
              | inl v ↦ (
                λ c q. absurd (let k = shaft_small c in let l = w.2 in omega arith),
                λ r q.
                    let t : treadle_of d r ≡ w.0 = let l = w.2 in omega arith in
                    deny (s.picks r) (λ f. both_ways (lifts d.tied w.0 i) under (rw (t, v.1) at (o.0 r v.0 v.2 f))),
              )
              | inr v ↦ absurd (let k = w.1 in let l = v.1 in omega arith)
            ]
        | inr w ↦
            let over : lifts d.tied w.0 j ≡ true = (treadle_needs_parts d w.0 j w.3).2 in
            elim has [
              | inl v ↦ absurd (let k = shaft_small v.0 in let l = v.1 in let m = w.2 in omega arith)
              | inr v ↦ (
                λ c q.
                    let t : treadle_of d v.0 ≡ w.0 = let l = v.1 in let m = w.2 in omega arith in
                    deny (s.ends c) (λ f. both_ways (lifts d.tied w.0 j) (rw (t, q) at (o.1 v.0 c f v.2)) over),
                λ r q. absurd (let k = w.1 in omega arith),
              )
            ]
      ]

  reach_has : (s : Some) → LieOver d s → (x : ℕ) → Has s x → (j : ℕ) → reached (needs d A) (A + B) x j ≡ true → Has s j
  reach_has s o x has =
      reached_kept (needs d A) (A + B) x (λ j. Has s j) has
      (λ i j h p e. all-has s j (needs_used d A i j e) (needed s o i j p e))

  -- what is reached from another is among them whole
  reach_all : (s : Some) → LieOver d s → (x : ℕ) → Has s x → (j : ℕ) → (j ≡ x → ⊥) → reached (needs d A) (A + B) x j ≡ true → HasAll s j
  reach_all s o x has j other e =
      elim
      (reached_kept (needs d A) (A + B) x (λ k. Has s k × ((k ≡ x) ⊎ HasAll s k)) (has, inl refl)
      (λ i k h p a. let q = needed s o i k p.0 a in (all-has s k (needs_used d A i k a) q, inr q)) j e).1
      [ inl q ↦ absurd (other q) | inr q ↦ q ]

  -- cloth hangs together where from each shaft and treadle that is used all that are used are reached
  pub hangs_reached : ((i j : ℕ) → is_used d A i ≡ true → is_used d A j ≡ true → reached (needs d A) (A + B) i j ≡ true) → HangsTogether d
  unfolding LieOver
  hangs_reached all s o =
      elim o.3 [
        | inl out ↦
            let w = other_has (A + treadle_of d 0) (used_pick 0) in
            both_ways (s.ends out.0) out.1
            ((reach_all s o (A + treadle_of d 0) w (shaft_of d out.0) (λ e. let k = shaft_small out.0 in omega arith)
            (all (A + treadle_of d 0) (shaft_of d out.0) (used_pick 0) (used_end out.0))).0 out.0 refl)
        | inr out ↦
            let w = other_has (shaft_of d 0) (used_end 0) in
            both_ways (s.picks out.0) out.1
            ((reach_all s o (shaft_of d 0) w (A + treadle_of d out.0) (λ e. let k = shaft_small 0 in omega arith)
            (all (shaft_of d 0) (A + treadle_of d out.0) (used_end 0) (used_pick out.0))).1 out.0 refl)
      ]
    where
      used_end : (c : ℕ) → is_used d A (shaft_of d c) ≡ true
      used_end c = used_shaft d A (shaft_of d c) (shaft_small c) ∙ shaft_in c

      used_pick : (r : ℕ) → is_used d A (A + treadle_of d r) ≡ true
      used_pick r = used_treadle d A (treadle_of d r) ∙ treadle_in r

      other_has : (j : ℕ) → is_used d A j ≡ true → Has s j
      other_has j u =
          elim o.2 [
            | inl v ↦ reach_has s o (shaft_of d v.0) (inl (v.0, refl, v.1)) j (all (shaft_of d v.0) j (used_end v.0) u)
            | inr v ↦ reach_has s o (A + treadle_of d v.0) (inr (v.0, refl, v.1)) j (all (A + treadle_of d v.0) j (used_pick v.0) u)
          ]

  -- as lists, so many
  listed : (set : ℕ → Bool) (n i : ℕ) → i < n → get_or (map set (range_with_len 0 n)) i false ≡ set i
  listed set n i h = get_or-map-range_with_len set 0 n i i false h (omega arith)

  listed_has : (set : ℕ → Bool) (n i : ℕ) → get_or (map set (range_with_len 0 n)) i false ≡ true → (i < n) × (set i ≡ true)
  listed_has set n i e =
      elim (cases_lt i n) [
        | inl h ↦ (h, sym (listed set n i h) ∙ e)
        | inr h ↦ absurd (false≢true (sym (get_or_past (map set (range_with_len 0 n)) i false (rw (length-map-range_with_len set 0 n) h)) ∙ e))
      ]

  -- what is reached from one that is used, where another is not
  pub unreached_apart : (x y : ℕ) → is_used d A x ≡ true → is_used d A y ≡ true → reached (needs d A) (A + B) x y ≡ false → Apart A B d
  unfolding LieOver
  unreached_apart x y ux uy e =
      let set : ℕ → Bool = reached (needs d A) (A + B) x in
      let ss : List Bool = map set (range_with_len 0 A) in
      let ts : List Bool = map (λ t. set (A + t)) (range_with_len 0 B) in
      let o = closed_lies set (reached_on (needs d A) (A + B) x) (x, ux, reached_self (needs d A) (A + B) x) (y, uy, e) in
      let end_in : (c : ℕ) → get_or ss (shaft_of d c) false ≡ set (shaft_of d c) = λ c. listed set A (shaft_of d c) (shaft_small c) in
      let pick_in : (r : ℕ) → get_or ts (treadle_of d r) false ≡ set (A + treadle_of d r) = λ r. listed (λ t. set (A + t)) B (treadle_of d r) (treadle_below B d r br hr) in
      let used : (j : ℕ) → set j ≡ true → is_used d A j ≡ true = reached_kept (needs d A) (A + B) x (λ j. is_used d A j ≡ true) ux (λ i j h p a. needs_used d A i j a) in (
        ss,
        ts,
        length-map-range_with_len set 0 A,
        length-map-range_with_len (λ t. set (A + t)) 0 B,
        (
          λ r c p q. o.0 r c (sym (end_in c) ∙ p) (sym (pick_in r) ∙ q),
          λ r c p q. o.1 r c (sym (end_in c) ∙ p) (sym (pick_in r) ∙ q),
          elim o.2 [ inl v ↦ inl (v.0, end_in v.0 ∙ v.1) | inr v ↦ inr (v.0, pick_in v.0 ∙ v.1) ],
          elim o.3 [ inl v ↦ inl (v.0, end_in v.0 ∙ v.1) | inr v ↦ inr (v.0, pick_in v.0 ∙ v.1) ],
        ),
        λ s p. let v = listed_has set A s p in sym (used_shaft d A s v.0) ∙ used s v.1,
        λ t p. let v = listed_has (λ u. set (A + u)) B t p in sym (used_treadle d A t) ∙ used (A + t) v.1,
      )

  used_inside : (i : ℕ) → is_used d A i ≡ true → i < A + B
  used_inside i u =
      elim (used_line (λ j. eqb j i) true (i, u, eq-eqb i i refl)) [
        | inl v ↦ omega (arith, used_below A d.threading v.0 bc v.1, eqb-true v.0 i v.2)
        | inr v ↦ omega (arith, used_below B d.treadling v.0 br v.1, eqb-true (A + v.0) i v.2)
      ]

  -- cloth hangs together, or some used shafts and treadles show that it doesn't
  pub hangs_or_apart : HangsTogether d ⊎ Apart A B d
  hangs_or_apart =
      elim (find₂ (λ i j. (is_used d A i && is_used d A j) && not (reached (needs d A) (A + B) i j)) (A + B) (A + B)) [
        | inl w ↦
            let b = and_parts (is_used d A w.0 && is_used d A w.1) (not (reached (needs d A) (A + B) w.0 w.1)) w.4 in
            let c = and_parts (is_used d A w.0) (is_used d A w.1) b.0 in
            inr (unreached_apart w.0 w.1 c.0 c.1 (not-true (reached (needs d A) (A + B) w.0 w.1) b.1))
        | inr none ↦
            inl
            (hangs_reached
            (λ i j ui uj.
            deny (reached (needs d A) (A + B) i j)
            (λ f.
            both_ways ((is_used d A i && is_used d A j) && not (reached (needs d A) (A + B) i j)) (none i j (used_inside i ui) (used_inside j uj))
            (and_from (is_used d A i && is_used d A j) (not (reached (needs d A) (A + B) i j)) (and_from (is_used d A i) (is_used d A j) ui uj) (not_from_false (reached (needs d A) (A + B) i j) f)))))
      ]

-- two rows with the same numbers, however often and in what order: each thread of the one has one of the other's on the same shaft, or with the same treadle
same_thread : (r q : Row) → 0 < long r → ((x : ℕ) → among x (written r) ≡ among x (written q)) → (i : ℕ) → (j : ℕ) × (get_or (written q) (j % long q) 0 ≡ get_or (written r) (i % long r) 0)
same_thread r q h same i =
    let x : ℕ = get_or (written r) (i % long r) 0 in
    let w = used_where q x (sym (same x) ∙ used_at r i h) in
    (w.0, w.2)

-- whether cloth hangs together rests on the tie-up, and on which shafts and treadles are used
module _ (d e : Draft) (dc : 0 < long d.threading) (dr : 0 < long d.treadling) (ec : 0 < long e.threading) (er : 0 < long e.treadling)
    (tie : e.tied ≡ d.tied)
    (shafts : (s : ℕ) → among s (written d.threading) ≡ among s (written e.threading))
    (treadles : (t : ℕ) → among t (written d.treadling) ≡ among t (written e.treadling)) where
  lies_too : (ss ts : List Bool) → LieOver e (by_shafts e ss ts) → LieOver d (by_shafts d ss ts)
  unfolding LieOver
  lies_too ss ts o = (
    λ r c p q.
        let x = same_thread d.threading e.threading dc shafts c in
        let y = same_thread d.treadling e.treadling dr treadles r in
        cell r c y.0 x.0 y.1 x.1 ∙ o.0 y.0 x.0 (ap (λ (s : ℕ). get_or ss s false) x.1 ∙ p) (ap (λ (t : ℕ). get_or ts t false) y.1 ∙ q),
    λ r c p q.
        let x = same_thread d.threading e.threading dc shafts c in
        let y = same_thread d.treadling e.treadling dr treadles r in
        cell r c y.0 x.0 y.1 x.1 ∙ o.1 y.0 x.0 (ap (λ (s : ℕ). get_or ss s false) x.1 ∙ p) (ap (λ (t : ℕ). get_or ts t false) y.1 ∙ q),
    thread true o.2,
    thread false o.3,
  )
    where
      cell : (r c r' c' : ℕ) → treadle_of e r' ≡ treadle_of d r → shaft_of e c' ≡ shaft_of d c → warp_over d r c ≡ warp_over e r' c'
      cell r c r' c' y x = rw (tie, y, x)

      thread : (b : Bool) → ((c : ℕ) × (get_or ss (shaft_of e c) false ≡ b)) ⊎ ((r : ℕ) × (get_or ts (treadle_of e r) false ≡ b))
          → ((c : ℕ) × (get_or ss (shaft_of d c) false ≡ b)) ⊎ ((r : ℕ) × (get_or ts (treadle_of d r) false ≡ b))
      thread b w =
          elim w [
            | inl v ↦
                let x = same_thread e.threading d.threading ec (λ s. sym (shafts s)) v.0 in
                inl (x.0, ap (λ (s : ℕ). get_or ss s false) x.1 ∙ v.1)
            | inr v ↦
                let y = same_thread e.treadling d.treadling er (λ t. sym (treadles t)) v.0 in
                inr (y.0, ap (λ (t : ℕ). get_or ts t false) y.1 ∙ v.1)
          ]

  pub hangs_members : HangsTogether d → HangsTogether e
  hangs_members hangs =
      elim (hangs_or_apart (bound e.threading) (bound e.treadling) e ec er (below_bound e.threading) (below_bound e.treadling)) [
        | inl h ↦ h
        | inr w ↦ absurd (hangs (by_shafts d w.0 w.1) (lies_too w.0 w.1 w.4))
      ]
