-- How many items tokens are.
use Rattle.std.proofs.Common.{◌≡◌, ℕ, zero, suc, ◌+◌, ◌-◌, ◌<◌, ◌≤◌, Bool, true, false, cond, ◌&&◌, ◌||◌, eqb, List, [], ◌∷◌, ◌++◌, length, get_or, drop, refl, ap, ◌∙◌, ◌⊎◌, inl, inr, append_assoc, add-zero, add-one, sub-one, arith}
use Rattle.std.proofs.lemmas.List.{drop_more, drop_all}
use Rattle.std.proofs.lemmas.Bool.{and_parts, or_cases, eqb-true, true≢false, false≢true}
use Rattle.weave.specs.Rows.{Row, one, then, times, turned, run}
use Rattle.tokens.specs.declared.Token.{Token}
use Rattle.tokens.specs.declared.Token.TheVariants.{Number, Run, Times, Turned, Open, Close, Colon}
use Rattle.rowtext.specs.Rows.{items, evenly, is_join, grouped, row_tokens, outside, count}

-- how many items a row's tokens are
abbrev pub many : Row → ℕ
many r = cond (evenly r) (items r) 2

-- xs are m items, whatever comes after them
abbrev pub Are : List Token → ℕ → Type 0
Are xs m = (d : ℕ) (ts : List Token) → count d (xs ++ ts) ≡ outside d m + count d ts

pub even_parts : (r s : Row) → evenly (then r s) ≡ true → (evenly r ≡ true) × (evenly s ≡ true) × (items s ≤ items r) × (items r ≤ suc (items s))
unfolding evenly
even_parts r s h =
    let a = and_parts (evenly r && evenly s) (eqb (items r) (items s) || eqb (items r) (suc (items s))) h in
    let b = and_parts (evenly r) (evenly s) a.0 in
    let k : (items s ≤ items r) × (items r ≤ suc (items s)) =
    elim (or_cases (eqb (items r) (items s)) (eqb (items r) (suc (items s))) a.1) [
      | inl e ↦ let q = eqb-true (items r) (items s) e in (omega arith, omega arith)
      | inr e ↦ let q = eqb-true (items r) (suc (items s)) e in (omega arith, omega arith)
    ] in
    (b.0, b.1, k.0, k.1)

pub many_even : (r : Row) → evenly r ≡ true → many r ≡ items r
many_even r e = rw e refl

pub items_then : (r s : Row) → items (then r s) ≡ items r + items s
unfolding items
items_then r s = refl

pub items_some : (r : Row) → 0 < items r
unfolding items
items_some (one n) = omega arith
items_some (then r s) = omega (arith, items_some r, items_some s)
items_some (times n r) = omega arith
items_some (turned r) = omega arith
items_some (run a b) = omega arith

pub single : (r : Row) → is_join r ≡ false → many r ≡ 1
unfolding is_join evenly items
single (one n) e = refl
single (then r s) e = absurd (true≢false e)
single (times n r) e = refl
single (turned r) e = refl
single (run a b) e = refl

pub several : (r : Row) → is_join r ≡ true → 2 ≤ many r
unfolding is_join
several (one n) e = absurd (false≢true e)
several (then r s) e = go (evenly (then r s))
  where
    go : (b : Bool) → 2 ≤ cond b (items (then r s)) 2
    go true = omega (arith, items_then r s, items_some r, items_some s)
    go false = omega arith
several (times n r) e = absurd (false≢true e)
several (turned r) e = absurd (false≢true e)
several (run a b) e = absurd (false≢true e)

grouped_are : (b : Bool) (xs : List Token) (m : ℕ) → Are xs m → (b ≡ false → m ≡ 1) → Are (grouped b xs) 1
unfolding count
grouped_are true xs m h lone zero ts = rw (append_assoc xs (Close ∷ []) ts, h 1 (Close ∷ ts)) (omega arith)
grouped_are true xs m h lone (suc d) ts = rw (append_assoc xs (Close ∷ []) ts, h (suc (suc d)) (Close ∷ ts)) (omega arith)
grouped_are false xs m h lone d ts = rw (lone refl) at (h d ts)

both_are : (xs ys : List Token) (m n : ℕ) → Are xs m → Are ys n → Are (xs ++ ys) (m + n)
both_are xs ys m n f g zero ts = rw (append_assoc xs ys ts, f zero (ys ++ ts), g zero ts) (omega arith)
both_are xs ys m n f g (suc d) ts = rw (append_assoc xs ys ts, f (suc d) (ys ++ ts), g (suc d) ts) (omega arith)

pub group_are : (r : Row) → Are (row_tokens r) (many r) → Are (grouped (is_join r) (row_tokens r)) 1
group_are r h = grouped_are (is_join r) (row_tokens r) (many r) h (single r)

then_are : (r s : Row) (b : Bool) → evenly (then r s) ≡ b → Are (row_tokens r) (many r) → Are (row_tokens s) (many s) →
    Are (cond b (row_tokens r ++ row_tokens s) (grouped (is_join r) (row_tokens r) ++ grouped (is_join s) (row_tokens s))) (cond b (items (then r s)) 2)
then_are r s true e f g =
    let p = even_parts r s e in
    rw (items_then r s, ← many_even r p.0, ← many_even s p.1) (both_are (row_tokens r) (row_tokens s) (many r) (many s) f g)
then_are r s false e f g = both_are (grouped (is_join r) (row_tokens r)) (grouped (is_join s) (row_tokens s)) 1 1 (group_are r f) (group_are s g)

times_are : (n : ℕ) (xs : List Token) → Are xs 1 → Are (Times n ∷ xs) 1
unfolding count
times_are n xs h zero ts = h zero ts
times_are n xs h (suc d) ts = h (suc d) ts

turned_are : (xs : List Token) → Are xs 1 → Are (Turned ∷ xs) 1
unfolding count
turned_are xs h zero ts = h zero ts
turned_are xs h (suc d) ts = h (suc d) ts

one_are : (n : ℕ) → Are (Number n ∷ []) 1
unfolding count
one_are n zero ts = omega arith
one_are n (suc d) ts = omega arith

run_are : (a b : ℕ) → Are (Run a b ∷ []) 1
unfolding count
run_are a b zero ts = omega arith
run_are a b (suc d) ts = omega arith

pub row_are : (r : Row) → Are (row_tokens r) (many r)
unfolding row_tokens is_join
row_are (one n) = rw (single (one n) refl) (one_are n)
row_are (then r s) = then_are r s (evenly (then r s)) refl (row_are r) (row_are s)
row_are (times n r) = rw (single (times n r) refl) (times_are n (grouped (is_join r) (row_tokens r)) (group_are r (row_are r)))
row_are (turned r) = rw (single (turned r) refl) (turned_are (grouped (is_join r) (row_tokens r)) (group_are r (row_are r)))
row_are (run a b) = rw (single (run a b) refl) (run_are a b)

-- counting, a token at a time
pub record Counted (all left : List Token) (n d : ℕ) : Type 0 where
  pub so : count 0 all ≡ n + count d left
  pub few : n + length left ≤ length all
  pub shallow : d + length left ≤ length all

module _ (all : List Token) (i n d : ℕ) (h : Counted all (drop i all) n d) (some : i < length all) where
  first_is : (t : Token) → get_or all i (Number 0) ≡ t → drop i all ≡ t ∷ drop (i + 1) all
  first_is t e = drop_more all i (Number 0) some ∙ ap (λ (u : Token). u ∷ drop (i + 1) all) e

  pub counted_on : (t : Token) → get_or all i (Number 0) ≡ t → (m k : ℕ) → m ≤ 1 → k ≤ suc d → count d (t ∷ drop (i + 1) all) ≡ m + count k (drop (i + 1) all) → Counted all (drop (i + 1) all) (n + m) k
  counted_on t e m k hm hk c =
      let f = first_is t e in
      record { so = omega (arith, h.so, ap (count d) f); few = omega (arith, h.few, ap length f); shallow = omega (arith, h.shallow, ap length f) }

  light : outside d 1 ≤ 1
  light = go d
    where
      go : (d : ℕ) → outside d 1 ≤ 1
      go zero = omega arith
      go (suc d) = omega arith

  -- a number or a run is an item, unless it is inside of parentheses
  pub counted_item : ((m : ℕ) × (get_or all i (Number 0) ≡ Number m)) ⊎ ((a : ℕ) × (b : ℕ) × (get_or all i (Number 0) ≡ Run a b)) → Counted all (drop (i + 1) all) (n + outside d 1) d
  unfolding count
  counted_item (inl (m, e)) = counted_on (Number m) e (outside d 1) d light (omega arith) refl
  counted_item (inr (a, b, e)) = counted_on (Run a b) e (outside d 1) d light (omega arith) refl

  -- so many times, what is turned and a colon are none
  pub counted_none : ((m : ℕ) × (get_or all i (Number 0) ≡ Times m)) ⊎ ((get_or all i (Number 0) ≡ Turned) ⊎ (get_or all i (Number 0) ≡ Colon)) → Counted all (drop (i + 1) all) n d
  unfolding count
  counted_none (inl (m, e)) = rw add-zero at (counted_on (Times m) e 0 d (omega arith) (omega arith) (omega arith))
  counted_none (inr (inl e)) = rw add-zero at (counted_on Turned e 0 d (omega arith) (omega arith) (omega arith))
  counted_none (inr (inr e)) = rw add-zero at (counted_on Colon e 0 d (omega arith) (omega arith) (omega arith))

  pub counted_open : get_or all i (Number 0) ≡ Open → Counted all (drop (i + 1) all) (n + outside d 1) (d + 1)
  unfolding count
  counted_open e = counted_on Open e (outside d 1) (d + 1) light (omega arith) (rw (add-one d) refl)

  pub counted_close : get_or all i (Number 0) ≡ Close → 0 < d → Counted all (drop (i + 1) all) n (d - 1)
  unfolding count
  counted_close e p = rw add-zero at (counted_on Close e 0 (d - 1) (omega arith) (omega arith) (close_in d p))
    where
      close_in : (d : ℕ) → 0 < d → count d (Close ∷ drop (i + 1) all) ≡ 0 + count (d - 1) (drop (i + 1) all)
      close_in zero p = absurd (omega arith)
      close_in (suc d) p = rw sub-one (omega arith)

  pub counted_end : get_or all i (Number 0) ≡ Close → d ≡ 0 → n ≡ count 0 all
  unfolding count
  counted_end e z =
      let q : count d (Close ∷ drop (i + 1) all) ≡ 0 = rw z refl in
      omega (arith, h.so, ap (count d) (first_is Close e))

pub counted_all : (all : List Token) (i n d : ℕ) → Counted all (drop i all) n d → length all ≤ i → n ≡ count 0 all
unfolding count
counted_all all i n d h e = omega (arith, h.so, ap (count d) (drop_all i all e))
