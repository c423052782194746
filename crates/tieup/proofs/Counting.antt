-- Counting kinds: going through a set, each number that is left takes all of its kind away. Those that are left when their turn comes are the first of their kinds.
use Rattle.std.proofs.Common.{◌≡◌, ℕ, ◌+◌, ◌-◌, ◌^◌, ◌<◌, ◌≤◌, Bool, true, false, not, ◌&&◌, ◌||◌, sym, refl, ◌∙◌, ap₂, inl, inr, add-one, arith}
use mathlib.Core.Bool.{and-true}
use lib.Bits.{bit_and}
use Rattle.std.proofs.lemmas.Bool.{cases_Bool, and_parts, and_from, and_left, and_right, not-false}
use Rattle.weave.specs.Rows.{pick}
use Rattle.weave.proofs.Counts.{any, any_at, any_where, count, count_most}
use Rattle.weave.proofs.Differ.{Kinds, first_of_kind}
use Rattle.lent.specs.Bits.{bit}
use Rattle.tieup.specs.Alike.{Sorted}
use Rattle.sets.proofs.Members.{bit_without}

-- in the set, and of the kind of none before s
abbrev pub left : (ℕ → ℕ → Bool) → (ℕ → Bool) → ℕ → ℕ → Bool
left f set s n = set n && not (any (λ j. set j && f j n) s)

-- those before s are counted by kinds, and rest has what is left
pub record Counting (f : ℕ → ℕ → Bool) (set : ℕ → Bool) (s counted rest : ℕ) : Type 0 where
  pub kinds_before : counted ≡ count (first_of_kind f set) s
  pub left_over : (n : ℕ) → n < 64 → bit rest n ≡ left f set s n

module _ (f : ℕ → ℕ → Bool) (set : ℕ → Bool) where
  left_all : (n : ℕ) → set n ≡ left f set 0 n
  unfolding any
  left_all n = sym (and-true (set n))

  no_kinds : 0 ≡ count (first_of_kind f set) 0
  unfolding count
  no_kinds = refl

  pub counting_starts : (rest : ℕ) → ((n : ℕ) → bit rest n ≡ set n) → Counting f set 0 0 rest
  counting_starts rest is = record { kinds_before = no_kinds; left_over = λ n h. is n ∙ left_all n }

  any_more : (s n : ℕ) → any (λ j. set j && f j n) (s + 1) ≡ ((set s && f s n) || any (λ j. set j && f j n) s)
  unfolding any
  any_more s n = rw (add-one s)

  kinds_more : (s : ℕ) → count (first_of_kind f set) (s + 1) ≡ pick (left f set s s) 1 0 + count (first_of_kind f set) s
  unfolding count
  kinds_more s = rw (add-one s)

  -- one that is left takes its kind away
  left_taken : (s n : ℕ) → (left f set s n && not ((set s && set n) && f s n)) ≡ left f set (s + 1) n
  left_taken s n = rw (any_more s n) (go (set s) (set n) (f s n) (any (λ j. set j && f j n) s))
    where
      go : (p q k a : Bool) → ((q && not a) && not ((p && q) && k)) ≡ (q && not ((p && k) || a))
      go true true true true = refl
      go true true true false = refl
      go true true false true = refl
      go true true false false = refl
      go true false k a = refl
      go false true k true = refl
      go false true k false = refl
      go false false k a = refl

  -- of one that isn't left the kind is gone already
  left_passed : Kinds f → (s n : ℕ) → left f set s s ≡ false → left f set s n ≡ left f set (s + 1) n
  left_passed kinds s n e = rw (any_more s n) (go (set s && f s n) (any (λ j. set j && f j n) s) gone)
    where
      gone : (set s && f s n) ≡ true → any (λ j. set j && f j n) s ≡ true
      gone h =
          let b = and_parts (set s) (f s n) h in
          let a : any (λ j. set j && f j s) s ≡ true = not-false (any (λ j. set j && f j s) s) (rw b.0 at e) in
          let w = any_where (λ j. set j && f j s) s a in
          let m = and_parts (set w.0) (f w.0 s) w.2 in
          any_at (λ j. set j && f j n) s w.0 w.1 (and_from (set w.0) (f w.0 n) m.0 (kinds.on w.0 s n m.1 b.1))

      go : (p a : Bool) → (p ≡ true → a ≡ true) → (set n && not a) ≡ (set n && not (p || a))
      go true a h = rw (h refl)
      go false a h = refl

  module _ (s counted rest : ℕ) (counting : Counting f set s counted rest) where
    pub counting_few : counted ≤ s
    counting_few = omega (arith, count_most (first_of_kind f set) s, counting.kinds_before)

    module _ (few : s < 64) where
      pub counting_used : bit rest s ≡ true → set s ≡ true
      counting_used h = (and_parts (set s) _ (sym (counting.left_over s few) ∙ h)).0

      -- as `rest & !kind` leaves it
      pub counting_takes : bit rest s ≡ true → (kind : ℕ) → kind < 2 ^ 64 → ((n : ℕ) → n < 64 → bit kind n ≡ ((set s && set n) && f s n))
          → Counting f set (s + 1) (counted + 1) (bit_and rest (2 ^ 64 - 1 - kind))
      counting_takes h kind fits is =
          let p : pick {A = ℕ} (left f set s s) 1 0 ≡ 1 = rw (sym (counting.left_over s few) ∙ h) in
          record {
            kinds_before = omega (arith, kinds_more s, counting.kinds_before);
            left_over = λ n l. bit_without 64 rest kind n fits l ∙ ap₂ (λ (a b : Bool). a && not b) (counting.left_over n l) (is n l) ∙ left_taken s n;
          }

      pub counting_passes : Kinds f → bit rest s ≡ false → Counting f set (s + 1) counted rest
      counting_passes kinds h =
          let e : left f set s s ≡ false = sym (counting.left_over s few) ∙ h in
          let p : pick {A = ℕ} (left f set s s) 1 0 ≡ 0 = rw e in
          record {
            kinds_before = omega (arith, kinds_more s, counting.kinds_before);
            left_over = λ n l. counting.left_over n l ∙ left_passed kinds s n e;
          }

-- one that is not used is alike with none, and no number beyond is
module _ {used : ℕ → Bool} {alike : ℕ → ℕ → Bool} {needed : ℕ} (s : Sorted used alike needed) where
  pub alike_past : (x n : ℕ) → 64 ≤ n → alike x n ≡ false
  alike_past x n h =
      let out : used n ≡ false = elim (cases_Bool (used n)) [ inl e ↦ absurd (let k = s.few n e in omega arith) | inr e ↦ e ] in
      s.alike_is x n ∙ and_left _ (s.same x n) (and_right (used x) (used n) out)

  pub alike_unused : (x n : ℕ) → used x ≡ false → alike x n ≡ false
  alike_unused x n e = s.alike_is x n ∙ rw e refl
