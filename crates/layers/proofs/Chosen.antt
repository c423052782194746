-- The smallest of the sets that the used shafts and treadles need, as a layer of the draft.
use Rattle.std.proofs.Common.{◌≡◌, ℕ, ◌+◌, ◌-◌, ◌/◌, ◌%◌, ◌^◌, ◌<◌, Bool, true, ◌&&◌, ◌||◌, eqb, ltb, List, get_or, sym, refl, ap, ◌∙◌, inl, inr, arith}
use mathlib.Core.Path.{fun_ext}
use lib.Count.{ones}
use Rattle.std.proofs.lemmas.Bool.{cases_Bool, cases_lt, and_parts, and_from, or_cases, or_left, eqb-true, eq-eqb, lt-ltb, le-ltb}
use Rattle.weave.specs.Rows.{pick}
use Rattle.weave.specs.Cloth.{Draft, HangsTogether}
use Rattle.weave.proofs.Counts.{count, count_same}
use Rattle.weave.proofs.Reach.{reached}
use Rattle.weave.proofs.Layers.{needs, is_used, needs_used}
use Rattle.lent.specs.Bits.{bit}
use Rattle.lent.specs.Shows.{Shows}
use Rattle.lent.specs.declared.Lent.{Lent}
use Rattle.lent.proofs.Shown.{shown_ends, shown_picks}
use Rattle.sets.proofs.Members.{bit_low, bit_shr}
use Rattle.layering.specs.Needs.{at_once, needed, how_many, how_many_used}
use Rattle.layering.specs.Layers.{OverAll, Lacks, Topmost}
use Rattle.layering.proofs.Sets.{ones_count, no_high_bits}
use Rattle.layering.proofs.Choice.{used_inside, needed_used, reached_needed, fewer_lacks, hangs, over_all}
use Rattle.sets.specs.Uses.{Uses}
use Rattle.layers.specs.Told.{in_row, Smallest}
use Rattle.sets.specs.declared.in_use.InUse.{InUse}
use Rattle.sets.proofs.Drafts.{threading_below, treadling_below}

module _ (d : Draft) (l : Lent) (shows : Shows d l) (u : InUse) (uses : Uses d u) (all : ℕ)
    (line : (j : ℕ) → bit all j ≡ pick (ltb j 64) (bit u.shafts j) (bit u.treadles (j - 64))) where
  inside : (j : ℕ) → is_used d 64 j ≡ true → j < 128
  inside = used_inside d (threading_below d l shows) (treadling_below d l shows)

  all_used : (j : ℕ) → bit all j ≡ is_used d 64 j
  unfolding is_used
  all_used j =
      line j
      ∙ elim (cases_lt j 64) [
        | inl h ↦ rw (lt-ltb j 64 h) (uses.shafts j)
        | inr h ↦ rw (le-ltb j 64 h) (uses.treadles (j - 64))
      ]

  used_all : (j : ℕ) → is_used d 64 j ≡ true → bit all j ≡ true
  used_all j e = all_used j ∙ e

  -- how many a set has whose members are used
  size : (x : ℕ) (set : ℕ → Bool) → ((j : ℕ) → bit x j ≡ set j) → ((j : ℕ) → set j ≡ true → is_used d 64 j ≡ true) → ones x ≡ count set 128
  size x set is only =
      ones_count 128 x
      (no_high_bits x 128 (λ j h. elim (cases_Bool (bit x j)) [ inl e ↦ absurd (let k = inside j (only j (sym (is j) ∙ e)) in omega arith) | inr e ↦ e ]))
      ∙ count_same (bit x) set 128 (λ j h. is j)

  module _ (rows : List ℕ) (row : (i j : ℕ) → in_row rows i j ≡ at_once d i j) where
    pub rows_used : (i j : ℕ) → in_row rows i j ≡ true → bit all j ≡ true
    rows_used i j e =
        let b = and_parts (is_used d 64 i) (eqb j i || needs d 64 i j) (sym (row i j) ∙ e) in
        used_all j
        (elim (or_cases (eqb j i) (needs d 64 i j) b.1) [
          | inl q ↦ rw (eqb-true j i q) b.0
          | inr q ↦ needs_used d 64 i j q
        ])

    pub rows_itself : (i : ℕ) → bit all i ≡ true → in_row rows i i ≡ true
    rows_itself i e = row i i ∙ and_from (is_used d 64 i) _ (sym (all_used i) ∙ e) (or_left (eqb i i) (needs d 64 i i) (eq-eqb i i refl))

    module _ (sets : List ℕ) (found : (i j : ℕ) → bit all i ≡ true → in_row sets i j ≡ reached (in_row rows) 128 i j) where
      set_needed : (i : ℕ) → is_used d 64 i ≡ true → (j : ℕ) → in_row sets i j ≡ needed d i j
      set_needed i e j =
          found i j (used_all i e)
          ∙ (ap (λ (r : ℕ → ℕ → Bool). reached r 128 i j) (fun_ext (λ a. fun_ext (λ b. row a b)))
          ∙ reached_needed d (threading_below d l shows) (treadling_below d l shows) i e j)

      set_size : (i : ℕ) → is_used d 64 i ≡ true → ones (get_or sets i 0) ≡ how_many d i
      set_size i e = size (get_or sets i 0) (needed d i) (set_needed i e) (needed_used d (threading_below d l shows) (treadling_below d l shows) i e)

      all_size : ones all ≡ how_many_used d
      all_size = size all (is_used d 64) all_used (λ j e. e)

      pub chosen_none : (x : ℕ) → Smallest sets all x → x ≡ all → HangsTogether d
      chosen_none x small e =
          elim small [
            | inl s ↦
                hangs d (threading_below d l shows) (treadling_below d l shows) (shown_ends d l shows) (shown_picks d l shows)
                (λ y v. omega (arith, s.1 y (used_all y v), set_size y v, all_size))
            | inr s ↦ absurd (let k : ones all < ones all = rw e at s.3 in omega arith)
          ]

      pub chosen_some : (x : ℕ) → Smallest sets all x → (x ≡ all → ⊥) → OverAll d (x % 2 ^ 64) (x / 2 ^ 64) × Topmost d (x % 2 ^ 64) (x / 2 ^ 64)
      chosen_some x small differs =
          elim small [
            | inl s ↦ absurd (differs s.0)
            | inr s ↦
                let i : ℕ = s.0 in
                let used : is_used d 64 i ≡ true = sym (all_used i) ∙ s.1 in
                let mine : ones x ≡ how_many d i = ap ones s.2 ∙ set_size i used in
                let lacks : Lacks d i = fewer_lacks d (threading_below d l shows) (treadling_below d l shows) i used (omega (arith, s.3, all_size)) in
                let has : (j : ℕ) → bit x j ≡ needed d i j = λ j. ap (λ (y : ℕ). bit y j) s.2 ∙ set_needed i used j in
                let shafts : (n : ℕ) → bit (x % 2 ^ 64) n ≡ (needed d i n && ltb n 64) = λ n. bit_low x 64 n ∙ ap (λ (t : Bool). t && ltb n 64) (has n) in
                let treadles : (n : ℕ) → bit (x / 2 ^ 64) n ≡ needed d i (64 + n) = λ n. bit_shr x 64 n ∙ has (64 + n) in (
                  over_all d (threading_below d l shows) (treadling_below d l shows) (shown_ends d l shows) (shown_picks d l shows) i used lacks (x % 2 ^ 64) (x / 2 ^ 64) shafts treadles,
                  record {
                    of = i;
                    used = used;
                    shafts = shafts;
                    treadles = treadles;
                    lacks = lacks;
                    fewest = λ y v k. omega (arith, s.4 y (used_all y v), set_size y v);
                    first = λ y h v k. omega (arith, s.5 y h (used_all y v), set_size y v);
                  },
                )
          ]
