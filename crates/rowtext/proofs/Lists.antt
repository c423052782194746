-- Plain lists are read, joined in halves.
use Rattle.std.proofs.Common.{◌≡◌, ℕ, zero, suc, ◌+◌, ◌-◌, ◌*◌, ◌/◌, ◌^◌, ◌<◌, ◌≤◌, Bool, true, false, leb, List, [], ◌∷◌, ◌++◌, length, take, drop, sym, refl, ap, ◌∙◌, inl, inr, append_assoc, pow-suc, arith, length-append, length-drop, take-append-drop, length-take}
use Rattle.std.proofs.lemmas.List.{append-nil}
use Rattle.std.proofs.lemmas.Bool.{false≢true, cases_lt}
use Rattle.weave.specs.Rows.{Row, one, then, run, deep, written, pick}
use Rattle.tokens.specs.declared.Token.{Token}
use Rattle.tokens.specs.declared.Token.TheVariants.{Number, Run, Times, Turned, Open, Close, Colon}
use Rattle.rowtext.specs.Rows.{count, got, around, second, item_in, row_in, alone, row_of}
use Rattle.rowtext.specs.Round.{plain, listed, ListsAreShallow}
use Rattle.rowtext.proofs.Rows.{row_item, row_halves}
use Rattle.rowtext.proofs.Putting.{text_cut}

-- a row of just the numbers of xs, at most k + 1 deep, is read from xs
pub record Listed (xs ts : List Token) (d k : ℕ) : Type 0 where
  pub read : Row
  pub so : row_in d (length xs) (xs ++ ts) ≡ got read ts
  pub are : written read ≡ listed xs
  pub shallow : deep read ≤ suc k

listed_one : (xs ts : List Token) (d k : ℕ) → 0 < d → plain xs ≡ true → length xs ≡ 1 → Listed xs ts d k
unfolding plain listed item_in written deep
listed_one [] ts d k hd p e = absurd (omega arith)
listed_one (x ∷ y ∷ xs) ts d k hd p e = absurd (omega arith)
listed_one (Number n ∷ []) ts d k hd p e = record { read = one n; so = row_item d (Number n ∷ ts) hd; are = refl; shallow = omega arith }
listed_one (Run a b ∷ []) ts d k hd p e = record { read = run a b; so = row_item d (Run a b ∷ ts) hd; are = sym (append-nil _); shallow = omega arith }
listed_one (Times n ∷ []) ts d k hd p e = absurd (false≢true p)
listed_one (Turned ∷ []) ts d k hd p e = absurd (false≢true p)
listed_one (Open ∷ []) ts d k hd p e = absurd (false≢true p)
listed_one (Close ∷ []) ts d k hd p e = absurd (false≢true p)
listed_one (Colon ∷ []) ts d k hd p e = absurd (false≢true p)

plain_both : (xs ys : List Token) → plain (xs ++ ys) ≡ true → (plain xs ≡ true) × (plain ys ≡ true)
unfolding plain
plain_both [] ys p = (refl, p)
plain_both (Number n ∷ xs) ys p = plain_both xs ys p
plain_both (Run a b ∷ xs) ys p = plain_both xs ys p
plain_both (Times n ∷ xs) ys p = absurd (false≢true p)
plain_both (Turned ∷ xs) ys p = absurd (false≢true p)
plain_both (Open ∷ xs) ys p = absurd (false≢true p)
plain_both (Close ∷ xs) ys p = absurd (false≢true p)
plain_both (Colon ∷ xs) ys p = absurd (false≢true p)

listed_both : (xs ys : List Token) → listed (xs ++ ys) ≡ listed xs ++ listed ys
unfolding listed
listed_both [] ys = refl
listed_both (Number n ∷ xs) ys = ap (λ l. n ∷ l) (listed_both xs ys)
listed_both (Run a b ∷ xs) ys = ap (λ l. written (run a b) ++ l) (listed_both xs ys) ∙ sym (append_assoc (written (run a b)) (listed xs) (listed ys))
listed_both (Times n ∷ xs) ys = listed_both xs ys
listed_both (Turned ∷ xs) ys = listed_both xs ys
listed_both (Open ∷ xs) ys = listed_both xs ys
listed_both (Close ∷ xs) ys = listed_both xs ys
listed_both (Colon ∷ xs) ys = listed_both xs ys

count_plain : (xs : List Token) → plain xs ≡ true → count 0 xs ≡ length xs
unfolding plain count
count_plain [] p = refl
count_plain (Number n ∷ xs) p = omega (arith, count_plain xs p)
count_plain (Run a b ∷ xs) p = omega (arith, count_plain xs p)
count_plain (Times n ∷ xs) p = absurd (false≢true p)
count_plain (Turned ∷ xs) p = absurd (false≢true p)
count_plain (Open ∷ xs) p = absurd (false≢true p)
count_plain (Close ∷ xs) p = absurd (false≢true p)
count_plain (Colon ∷ xs) p = absurd (false≢true p)

deeper : (b : Bool) (x y d : ℕ) → x ≤ d → y ≤ d → suc (pick b y x) ≤ suc d
deeper true x y d h k = omega arith
deeper false x y d h k = omega arith

listed_halves : (xs ys ts : List Token) (d k : ℕ) → 0 < d → 0 < length ys → length ys ≤ length xs → length xs ≤ suc (length ys) →
    Listed xs (ys ++ ts) (d - 1) k → Listed ys ts (d - 1) k → Listed (xs ++ ys) ts d (suc k)
unfolding second around written deep
listed_halves xs ys ts d k hd some le ge f g =
    let b : (length xs + length ys) / 2 ≡ length ys = omega arith in
    let a : (length xs + length ys) - length ys ≡ length xs = omega arith in
    record {
      read = then f.read g.read;
      so = rw (length-append xs ys, append_assoc xs ys ts) (row_halves d (length xs + length ys) (xs ++ (ys ++ ts)) hd (omega arith) ∙ rw (b, a, f.so, g.so) refl);
      are = rw (f.are, g.are) (sym (listed_both xs ys));
      shallow = deeper (leb (deep f.read) (deep g.read)) (deep f.read) (deep g.read) (suc k) f.shallow g.shallow;
    }

listed_in : (k : ℕ) (xs ts : List Token) (d : ℕ) → k < d → plain xs ≡ true → 0 < length xs → length xs ≤ 2 ^ k → Listed xs ts d k
listed_in zero xs ts d hd p some few = listed_one xs ts d zero (omega arith) p (omega arith)
listed_in (suc k) xs ts d hd p some few =
    elim (cases_lt 1 (length xs)) [
      | inr le ↦ listed_one xs ts d (suc k) (omega arith) p (omega (arith, le))
      | inl two ↦
          let w : 2 ^ suc k ≡ 2 ^ k * 2 = pow-suc 2 k in
          let m = length xs - length xs / 2 in
          let e : take m xs ++ drop m xs ≡ xs = take-append-drop m xs in
          let q = plain_both (take m xs) (drop m xs) (rw e p) in
          let la : length (take m xs) ≡ m = length-take m xs ∙ omega (arith, two) in
          let lb : length (drop m xs) ≡ length xs - m = length-drop m xs in
          rw e at
          (listed_halves (take m xs) (drop m xs) ts d k (omega arith) (omega (arith, two, la, lb)) (omega (arith, la, lb)) (omega (arith, la, lb))
          (listed_in k (take m xs) (drop m xs ++ ts) (d - 1) (omega arith) q.0 (omega (arith, two, la)) (omega (arith, la, w)))
          (listed_in k (drop m xs) ts (d - 1) (omega arith) q.1 (omega (arith, two, lb)) (omega (arith, lb, w))))
    ]

pub lists_shallow : ListsAreShallow
unfolding row_of alone
lists_shallow cs ts k e p some few h =
    let l = listed_in k ts [] 255 h p some few in
    let so : row_in 255 (length ts) ts ≡ got l.read [] = rw append-nil at l.so in
    (l.read, text_cut cs ts e ∙ rw (count_plain ts p, so) refl, l.are, l.shallow)
