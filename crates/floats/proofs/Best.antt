-- The longest float so far, of the lines below some, and sets that were looked at.
use Rattle.std.proofs.Common.{◌≡◌, ℕ, zero, suc, ◌+◌, ◌<◌, ◌≤◌, Bool, true, false, ltb, Some, None, Option, List, length, set, replicate, sym, refl, ◌∙◌, inl, inr, subst, add-one, arith}
use Rattle.std.specs.List.{ContainsAt as Has, AllByRecursion as All}
use Rattle.std.proofs.lemmas.List.{length-set}
use Rattle.std.proofs.ByRecursion.{All-set, All-weaker, all-has}
use Rattle.std.proofs.lemmas.Bool.{cases_Bool, ltb-true, ltb-false, lt-ltb, le-ltb}
use Rattle.weave.specs.Rows.{pick}
use Rattle.weave.specs.Cloth.{Draft, larger}
use Rattle.weave.specs.Calls.{longest}
use Rattle.weave.proofs.Longest.{best, best_none}
use Rattle.floats.specs.Kinds.{number_of, HasFloat}
use Rattle.floats.specs.Longest.{Longest, length_of}
use Rattle.floats.specs.declared.Float.{Float}
use Rattle.floats.specs.declared.Kind.{Kind}

-- u tells which lines are used, g how long the longest of a line is, h the same of a set
pub record Best (u : ℕ → Bool) (g h : ℕ → ℕ) (n : ℕ) (seen : List ℕ) (most : Option Float) : Type 0 where
  pub longest : length_of most ≡ best (λ x. pick (u x) (g x) 0) n
  pub of : (f : Float) → most ≡ Some f → (0 < f.length) × (u f.of ≡ true) × (g f.of ≡ f.length)
  pub looked : All (λ s. h s ≤ length_of most) seen
  pub room : length seen ≡ 64

all_replicate : (P : ℕ → Type 0) (n s : ℕ) → P s → All P (replicate n s)
all_replicate P zero s p = tt
all_replicate P (suc n) s p = (p, all_replicate P n s p)

module _ {u : ℕ → Bool} {g h : ℕ → ℕ} where
  pub best_first : h 0 ≡ 0 → Best u g h 0 (replicate 64 0) None
  best_first e =
      record {
        longest = sym (best_none (λ x. pick (u x) (g x) 0));
        of = λ f e. let z : ◌≡◌ {A = Option Float} None (Some f) = e in absurd (cc);
        looked = all_replicate (λ s. h s ≤ 0) 64 0 (omega arith);
        room = refl;
      }

  module _ {n : ℕ} {seen : List ℕ} {most : Option Float} (so_far : Best u g h n seen most) where
    more : best (λ x. pick (u x) (g x) 0) (n + 1) ≡ larger (length_of most) (pick (u n) (g n) 0)
    unfolding best
    more = rw (add-one n, so_far.longest)

    -- nothing longer
    kept : pick (u n) (g n) 0 ≤ length_of most → Best u g h (n + 1) seen most
    kept l = record { longest = sym (more ∙ rw (le-ltb (length_of most) (pick (u n) (g n) 0) l)); of = so_far.of; looked = so_far.looked; room = so_far.room }

    pub best_passed : u n ≡ false → Best u g h (n + 1) seen most
    best_passed e = kept (rw e (omega arith))

    pub best_again : {s : ℕ} → u n ≡ true → g n ≡ h s → Has seen s → Best u g h (n + 1) seen most
    best_again {s} e k w = kept (rw (e, k) (all-has (λ s. h s ≤ length_of most) seen s so_far.looked w))

    -- a set that was not yet looked at: it is longer, or not
    pub best_longer : {s : ℕ} → u n ≡ true → g n ≡ h s → length_of most < g n → Best u g h (n + 1) (set seen n s) (Some (record { length = g n; of = n }))
    best_longer {s} e k m =
        record {
          longest = sym (more ∙ rw (e, lt-ltb (length_of most) (g n) m));
          of = λ f w. let z : ◌≡◌ {A = Float} (record { length = g n; of = n }) f = grind arith in subst (λ (f : Float). (0 < f.length) × (u f.of ≡ true) × (g f.of ≡ f.length)) z (omega (arith, m), e, refl);
          looked = All-set (λ t. h t ≤ g n) seen n s (omega arith) (All-weaker (λ t. h t ≤ length_of most) (λ t. h t ≤ g n) (λ t p. omega arith) seen so_far.looked);
          room = length-set seen n s ∙ so_far.room;
        }

    pub best_no_longer : {s : ℕ} → u n ≡ true → g n ≡ h s → g n ≤ length_of most → Best u g h (n + 1) (set seen n s) most
    best_no_longer {s} e k m =
        let b = kept (rw e m) in
        record { longest = b.longest; of = b.of; looked = All-set (λ t. h t ≤ length_of most) seen n s (omega arith) b.looked; room = length-set seen n s ∙ b.room }

    -- a set that was not yet looked at
    pub best_taken : {s : ℕ} {x : Option Float} → u n ≡ true → g n ≡ h s → x ≡ pick (ltb (length_of most) (g n)) (Some (record { length = g n; of = n })) most → Best u g h (n + 1) (set seen n s) x
    best_taken {s} {x} e k q =
        elim (cases_Bool (ltb (length_of most) (g n))) [
          | inl l ↦
              let q' : x ≡ Some (record { length = g n; of = n }) = rw l at q in
              rw q' (best_longer e k (ltb-true (length_of most) (g n) l))
          | inr l ↦
              let q' : x ≡ most = rw l at q in
              rw q' (best_no_longer e k (ltb-false (length_of most) (g n) l))
        ]

-- the longest of all is told with what has it; or there is none
pub best_told : (d : Draft) (k : Kind) (most : Option Float) → length_of most ≡ longest d (number_of k) → ((f : Float) → most ≡ Some f → 0 < f.length) → ((f : Float) → most ≡ Some f → HasFloat d k f.of f.length) → Longest d k most
best_told d k (Some f) e some has = (e, some f refl, has f refl)
best_told d k None e some has = sym e
