-- Laws of words that begin with a row.
use Rattle.std.proofs.Common.{◌≡◌, ℕ, zero, suc, ◌+◌, ◌-◌, ◌*◌, ◌<◌, ◌≤◌, true, List, [], ◌∷◌, ◌++◌, length, get_or, drop, refl, ap, ◌∙◌, inl, inr, arith}
use Rattle.std.proofs.lemmas.List.{length-append, append_assoc, drop_at, get_or_append_left, get_or-append_right}
use Rattle.std.proofs.lemmas.Bool.{and_parts, ltb-true, cases_lt}
use Rattle.weave.specs.Rows.{Row, one, then, times, turned, run, long, size}
use Rattle.weave.specs.Calls.{good_row}
use Rattle.weave.specs.Promise.{fields_in}
use Rattle.rows.specs.Words.{head_word, two_numbers, row_words, Small, Begins}
use Rattle.rows.proofs.Parts.{small_then, small_times, small_turned, good_small}

-- the fields of a row's two first words, and the words behind them
abbrev pub kind : Row → ℕ
kind (one n) = 0
kind (then r s) = 1
kind (times n r) = 2
kind (turned r) = 3
kind (run a b) = 4

abbrev pub left : Row → ℕ
left (one n) = 0
left (then r s) = size r
left (times n r) = 0
left (turned r) = 0
left (run a b) = 0

abbrev pub first : Row → ℕ
first (one n) = n
first (then r s) = 0
first (times n r) = n
first (turned r) = 0
first (run a b) = a

abbrev pub second : Row → ℕ
second (one n) = 0
second (then r s) = 0
second (times n r) = 0
second (turned r) = 0
second (run a b) = b

abbrev pub inner : Row → List ℕ
inner (one n) = []
inner (then r s) = row_words r ++ row_words s
inner (times n r) = row_words r
inner (turned r) = row_words r
inner (run a b) = []

pub words_are : (r : Row) → row_words r ≡ head_word (kind r) (left r) (long r) ∷ (two_numbers (first r) (second r) ∷ inner r)
unfolding row_words long
words_are (one n) = refl
words_are (then r s) = refl
words_are (times n r) = refl
words_are (turned r) = refl
words_are (run a b) = refl

pub kind_le : (r : Row) → kind r ≤ 4
kind_le (one n) = omega arith
kind_le (then r s) = omega arith
kind_le (times n r) = omega arith
kind_le (turned r) = omega arith
kind_le (run a b) = omega arith

pub left_lt : (r : Row) → left r < size r
unfolding size
left_lt (one n) = omega arith
left_lt (then r s) = omega arith
left_lt (times n r) = omega arith
left_lt (turned r) = omega arith
left_lt (run a b) = omega arith

pub first_fits : (r : Row) → fields_in r ≡ true → first r < 4294967296
unfolding fields_in
first_fits (one n) h = ltb-true n 4294967296 h
first_fits (then r s) h = omega arith
first_fits (times n r) h = ltb-true n 4294967296 (and_parts _ _ h).0
first_fits (turned r) h = omega arith
first_fits (run a b) h = ltb-true a 4294967296 (and_parts _ _ h).0

pub second_fits : (r : Row) → fields_in r ≡ true → second r < 4294967296
unfolding fields_in
second_fits (one n) h = omega arith
second_fits (then r s) h = omega arith
second_fits (times n r) h = omega arith
second_fits (turned r) h = omega arith
second_fits (run a b) h = ltb-true b 4294967296 (and_parts _ _ h).1

-- two words for each part
pub words_long : (r : Row) → length (row_words r) ≡ 2 * size r
unfolding row_words size
words_long (one n) = refl
words_long (then r s) = simp length-append (omega (arith, words_long r, words_long s))
words_long (times n r) = omega (arith, words_long r)
words_long (turned r) = omega (arith, words_long r)
words_long (run a b) = refl

-- what the two first words of a row say
pub record Opened (r : Row) (ws : List ℕ) : Type 0 where
  pub two : 2 ≤ length ws
  pub room : 2 * size r ≤ length ws
  pub word_0 : get_or ws 0 0 ≡ kind r + 8 * left r + 4294967296 * long r
  pub word_1 : get_or ws 1 0 ≡ first r + 4294967296 * second r
  pub kind_few : kind r ≤ 4
  pub left_few : left r < size r
  pub size_few : size r ≤ 256
  pub long_few : long r ≤ 16777216
  pub first_few : first r < 4294967296
  pub second_few : second r < 4294967296

pub opened : (r : Row) (ws : List ℕ) → Begins r ws → Opened r ws
opened r ws b =
    let e : ws ≡ head_word (kind r) (left r) (long r) ∷ (two_numbers (first r) (second r) ∷ (inner r ++ b.rest)) = b.is ∙ ap (λ (x : List ℕ). x ++ b.rest) (words_are r) in
    record {
      two = rw e (omega arith);
      room = rw b.is (simp length-append (omega (arith, words_long r)));
      word_0 = rw e;
      word_1 = rw e;
      kind_few = kind_le r;
      left_few = left_lt r;
      size_few = b.small.few;
      long_few = b.small.short;
      first_few = first_fits r b.small.fields;
      second_few = second_fits r b.small.fields;
    }

-- the rows in a row
pub inner_then : (r s : Row) (ws : List ℕ) → Begins (then r s) ws → Begins r (drop 2 ws) × Begins s (drop (2 * size r) (drop 2 ws))
unfolding row_words
inner_then r s ws b =
    let e : drop 2 ws ≡ row_words r ++ (row_words s ++ b.rest) = rw b.is (append_assoc (row_words r) (row_words s) b.rest) in (
      record { small = (small_then r s b.small).0; rest = row_words s ++ b.rest; is = e },
      record { small = (small_then r s b.small).1; rest = b.rest; is = rw e (drop_at _ _ _ (words_long r)) },
    )

pub inner_times : (n : ℕ) (r : Row) (ws : List ℕ) → Begins (times n r) ws → Begins r (drop 2 ws)
unfolding row_words
inner_times n r ws b = record { small = small_times n r b.small; rest = b.rest; is = rw b.is }

pub inner_turned : (r : Row) (ws : List ℕ) → Begins (turned r) ws → Begins r (drop 2 ws)
unfolding row_words
inner_turned r ws b = record { small = small_turned r b.small; rest = b.rest; is = rw b.is }

-- how a row is told by its kind
pub is_one : (r : Row) → kind r ≡ 0 → r ≡ one (first r)
is_one (one n) h = refl
is_one (then r s) h = absurd (omega arith)
is_one (times n r) h = absurd (omega arith)
is_one (turned r) h = absurd (omega arith)
is_one (run a b) h = absurd (omega arith)

pub is_then : (r : Row) (ws : List ℕ) → Begins r ws → kind r ≡ 1 → (p : Row) × (q : Row) × (r ≡ then p q) × Begins p (drop 2 ws) × Begins q (drop (2 * left r) (drop 2 ws))
is_then (one n) ws b h = absurd (omega arith)
is_then (then r s) ws b h = (r, s, refl, (inner_then r s ws b).0, (inner_then r s ws b).1)
is_then (times n r) ws b h = absurd (omega arith)
is_then (turned r) ws b h = absurd (omega arith)
is_then (run a b) ws c h = absurd (omega arith)

pub is_times : (r : Row) (ws : List ℕ) → Begins r ws → kind r ≡ 2 → (p : Row) × (r ≡ times (first r) p) × Begins p (drop 2 ws)
is_times (one n) ws b h = absurd (omega arith)
is_times (then r s) ws b h = absurd (omega arith)
is_times (times n r) ws b h = (r, refl, inner_times n r ws b)
is_times (turned r) ws b h = absurd (omega arith)
is_times (run a b) ws c h = absurd (omega arith)

pub is_turned : (r : Row) (ws : List ℕ) → Begins r ws → kind r ≡ 3 → (p : Row) × (r ≡ turned p) × Begins p (drop 2 ws)
is_turned (one n) ws b h = absurd (omega arith)
is_turned (then r s) ws b h = absurd (omega arith)
is_turned (times n r) ws b h = absurd (omega arith)
is_turned (turned r) ws b h = (r, refl, inner_turned r ws b)
is_turned (run a b) ws c h = absurd (omega arith)

pub is_run : (r : Row) → kind r ≡ 4 → r ≡ run (first r) (second r)
is_run (one n) h = absurd (omega arith)
is_run (then r s) h = absurd (omega arith)
is_run (times n r) h = absurd (omega arith)
is_run (turned r) h = absurd (omega arith)
is_run (run a b) h = refl

-- words tell how long their row is
pub same_long : (r s : Row) (ws : List ℕ) → Begins r ws → Begins s ws → long r ≡ long s
same_long r s ws b d = let o = opened r ws b in let p = opened s ws d in omega arith

-- words that begin with a good row
pub good_begins : (m : ℕ) (r : Row) (ws rest : List ℕ) → good_row m r ≡ true → fields_in r ≡ true → ws ≡ row_words r ++ rest → Begins r ws
good_begins m r ws rest g f e = record { small = good_small m r g f; rest = rest; is = e }

-- the words of the row of one 0
pub words_zero : row_words (one 0) ≡ 4294967296 ∷ 0 ∷ []
unfolding row_words
words_zero = refl

-- each word of a row fits 64 bits
part_fits : (k m n a b : ℕ) (ws : List ℕ) → k ≤ 4 → m ≤ 256 → n ≤ 16777216 → a < 4294967296 → b < 4294967296 → ((i : ℕ) → get_or ws i 0 < 18446744073709551616)
    → (i : ℕ) → get_or (head_word k m n ∷ (two_numbers a b ∷ ws)) i 0 < 18446744073709551616
part_fits k m n a b ws hk hm hn ha hb f zero = omega arith
part_fits k m n a b ws hk hm hn ha hb f (suc zero) = omega arith
part_fits k m n a b ws hk hm hn ha hb f (suc (suc i)) = f i

both_fit : (xs ys : List ℕ) → ((i : ℕ) → get_or xs i 0 < 18446744073709551616) → ((i : ℕ) → get_or ys i 0 < 18446744073709551616) → (i : ℕ) → get_or (xs ++ ys) i 0 < 18446744073709551616
both_fit xs ys f g i =
    elim (cases_lt i (length xs)) [
      | inl h ↦ rw (get_or_append_left xs ys 0 i h) (f i)
      | inr h ↦ rw (get_or-append_right xs ys (length xs) i 0 refl h) (g (i - length xs))
    ]

fit_by : (r : Row) → Small r → ((i : ℕ) → get_or (inner r) i 0 < 18446744073709551616) → (i : ℕ) → get_or (row_words r) i 0 < 18446744073709551616
fit_by r s f =
    rw (words_are r)
    (part_fits (kind r) (left r) (long r) (first r) (second r) (inner r) (kind_le r) (omega (arith, left_lt r, s.few)) s.short (first_fits r s.fields) (second_fits r s.fields) f)

pub words_fit : (r : Row) → Small r → (i : ℕ) → get_or (row_words r) i 0 < 18446744073709551616
words_fit (one n) s = fit_by (one n) s (λ i. omega arith)
words_fit (then p q) s = fit_by (then p q) s (both_fit (row_words p) (row_words q) (words_fit p (small_then p q s).0) (words_fit q (small_then p q s).1))
words_fit (times n p) s = fit_by (times n p) s (words_fit p (small_times n p s))
words_fit (turned p) s = fit_by (turned p) s (words_fit p (small_turned p s))
words_fit (run a b) s = fit_by (run a b) s (λ i. omega arith)
