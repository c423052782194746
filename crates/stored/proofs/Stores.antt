-- Laws of rows that are stored.
use Rattle.std.proofs.Common.{◌≡◌, ℕ, suc, ◌+◌, ◌-◌, ◌*◌, ◌<◌, ◌≤◌, List, ◌∷◌, ◌++◌, length, take, drop, sym, refl, ap, ◌∙◌, arith}
use borrow.Rule.Slice.PartMut.{put_mid}
use Rattle.std.proofs.lemmas.List.{length-append, length-drop, append_assoc, append-nil, drop_at, take_at, drop_all, drop-drop, length-take-le}
use Rattle.weave.specs.Rows.{Row, one, then, times, turned, run, long, size}
use Rattle.rows.specs.Words.{head_word, two_numbers, row_words, Small}
use Rattle.rows.proofs.Words.{words_long}
use Rattle.stored.specs.Stores.{Stores, joined, repeated, mirrored}
use Rattle.stored.specs.declared.Extent.{Extent}

-- after a write to `ws[a..]`
pub put_tail : (a : ℕ) (ws ys : List ℕ) → put_mid a (length ws - a) ws ys ≡ take a ws ++ ys
put_tail a ws ys =
    let h : length (drop a ws) ≤ length ws - a = simp length-drop (omega arith) in
    rw (drop_all (length ws - a) (drop a ws) h, append-nil ys)

pub drop_put_tail : (a : ℕ) (ws ys : List ℕ) → a ≤ length ws → drop a (put_mid a (length ws - a) ws ys) ≡ ys
drop_put_tail a ws ys h = rw (put_tail a ws ys) (drop_at (take a ws) ys a (length-take-le a ws h))

-- the words behind a part's own two
pub behind_two : (r : Row) (n : ℕ) (ws ys : List ℕ) → 2 ≤ length ws → n ≡ suc (size r) → ys ≡ row_words r ++ drop (2 * size r) (drop 2 ws) →
    drop 2 (put_mid 2 (length ws - 2) ws ys) ≡ row_words r ++ drop (2 * n) ws
behind_two r n ws ys h e f =
    let k : 2 + 2 * size r ≡ 2 * n = omega arith in
    drop_put_tail 2 ws ys h ∙ f ∙ ap (λ (x : List ℕ). row_words r ++ x) (drop-drop (2 * size r) 2 ws ∙ ap (λ (m : ℕ). drop m ws) k)

pub behind_then : (p q : Row) (n : ℕ) (ws fs ss : List ℕ) → 2 ≤ length ws → n ≡ suc (size p + size q) →
    fs ≡ row_words p ++ drop (2 * size p) (drop 2 ws) → ss ≡ row_words q ++ drop (2 * size q) (drop (2 * size p) fs) →
    drop 2 (put_mid 2 (length ws - 2) ws (put_mid (2 * size p) (length fs - 2 * size p) fs ss)) ≡ (row_words p ++ row_words q) ++ drop (2 * n) ws
behind_then p q n ws fs ss h e f g =
    let k : (2 + 2 * size p) + 2 * size q ≡ 2 * n = omega arith in
    let t : take (2 * size p) fs ≡ row_words p = rw f (take_at (row_words p) _ _ (words_long p)) in
    let d : drop (2 * size p) fs ≡ drop (2 + 2 * size p) ws = rw f (drop_at (row_words p) _ _ (words_long p) ∙ drop-drop (2 * size p) 2 ws) in
    let s : ss ≡ row_words q ++ drop (2 * n) ws = g ∙ ap (λ (x : List ℕ). row_words q ++ x) (ap (drop (2 * size q)) d ∙ drop-drop (2 * size q) (2 + 2 * size p) ws ∙ ap (λ (m : ℕ). drop m ws) k) in
    drop_put_tail 2 ws _ h ∙ put_tail (2 * size p) fs ss ∙ ap (λ (x : List ℕ). x ++ ss) t ∙ ap (λ (x : List ℕ). row_words p ++ x) s ∙ sym (append_assoc (row_words p) (row_words q) (drop (2 * n) ws))

-- what is stored, by the outermost part
pub stores_one : (n : ℕ) (ws vs : List ℕ) → vs ≡ head_word 0 0 1 ∷ (two_numbers n 0 ∷ drop 2 ws) → Stores (one n) (record { parts = 1; numbers = 1 }) ws vs
unfolding row_words size long
stores_one n ws vs e = record { parts = refl; numbers = refl; words = e }

pub stores_run : (a b m : ℕ) (ws vs : List ℕ) → m ≡ long (run a b) → vs ≡ head_word 4 0 m ∷ (two_numbers a b ∷ drop 2 ws) → Stores (run a b) (record { parts = 1; numbers = m }) ws vs
unfolding row_words size
stores_run a b m ws vs f e = record { parts = refl; numbers = f; words = rw (← f) e }

pub stores_then : (p q : Row) (x y z : Extent) (ws fs ss us vs : List ℕ) → 2 ≤ length ws → fs ≡ drop 2 ws → Stores p x fs ss → z ≡ joined x y →
    Stores q y (drop (2 * size p) ss) us →
    vs ≡ head_word 1 x.parts (x.numbers + y.numbers) ∷ (0 ∷ drop 2 (put_mid 2 (length ws - 2) ws (put_mid (2 * x.parts) (length ss - 2 * x.parts) ss us))) →
    Stores (then p q) z ws vs
unfolding row_words size long
stores_then p q x y z ws fs ss us vs h i s e t f =
    let b = behind_then p q _ ws ss us h refl (rw i at s.words) t.words in
    record {
      parts = rw e (omega (arith, s.parts, t.parts));
      numbers = rw e (omega (arith, s.numbers, t.numbers));
      words = rw (s.parts, s.numbers, t.numbers) at f ∙ ap (λ (w : List ℕ). head_word 1 (size p) (long p + long q) ∷ (0 ∷ w)) b;
    }

pub stores_times : (n : ℕ) (p : Row) (x z : Extent) (ws fs ss vs : List ℕ) → 2 ≤ length ws → fs ≡ drop 2 ws → Stores p x fs ss → z ≡ repeated n x →
    vs ≡ head_word 2 0 (n * x.numbers) ∷ (two_numbers n 0 ∷ drop 2 (put_mid 2 (length ws - 2) ws ss)) →
    Stores (times n p) z ws vs
unfolding row_words size long
stores_times n p x z ws fs ss vs h i s e f =
    let b = behind_two p _ ws ss h refl (rw i at s.words) in
    record {
      parts = rw e (omega (arith, s.parts));
      numbers = rw e (ap (λ (m : ℕ). n * m) s.numbers);
      words = rw s.numbers at f ∙ ap (λ (w : List ℕ). head_word 2 0 (n * long p) ∷ (two_numbers n 0 ∷ w)) b;
    }

pub stores_turned : (p : Row) (x z : Extent) (ws fs ss vs : List ℕ) → 2 ≤ length ws → fs ≡ drop 2 ws → Stores p x fs ss → z ≡ mirrored x →
    vs ≡ head_word 3 0 x.numbers ∷ (0 ∷ drop 2 (put_mid 2 (length ws - 2) ws ss)) →
    Stores (turned p) z ws vs
unfolding row_words size long
stores_turned p x z ws fs ss vs h i s e f =
    let b = behind_two p _ ws ss h refl (rw i at s.words) in
    record {
      parts = rw e (omega (arith, s.parts));
      numbers = rw e s.numbers;
      words = rw s.numbers at f ∙ ap (λ (w : List ℕ). head_word 3 0 (long p) ∷ (0 ∷ w)) b;
    }

-- lengths
pub stores_room : (p : Row) (x : Extent) (fs ss : List ℕ) → Stores p x fs ss → 2 * size p ≤ length ss
stores_room p x fs ss s = rw s.words (simp length-append (omega (arith, words_long p)))

pub stores_length : (p : Row) (x : Extent) (fs ss : List ℕ) → Stores p x fs ss → 2 * size p ≤ length fs → length ss ≡ length fs
stores_length p x fs ss s h = rw s.words (simp (length-append, length-drop) (omega (arith, words_long p)))

pub put_room : (a : ℕ) (ws ys : List ℕ) → a ≤ length ws → a ≤ length (put_mid a (length ws - a) ws ys)
put_room a ws ys h = rw (put_tail a ws ys) (simp length-append (omega (arith, length-take-le a ws h)))

-- what is small leaves room for its part
pub then_small : (p q : Row) → Small (then p q) → (size p + size q < 256) × (long p + long q ≤ 16777216)
unfolding size long
then_small p q s = (omega (arith, s.few), s.short)

pub times_small : (n : ℕ) (p : Row) → Small (times n p) → (size p < 256) × (n * long p ≤ 16777216)
unfolding size long
times_small n p s = (omega (arith, s.few), s.short)

pub turned_small : (p : Row) → Small (turned p) → size p < 256
unfolding size
turned_small p s = omega (arith, s.few)
