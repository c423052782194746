-- The outermost part of a row's bytes, and the row that they begin with.
use Rattle.std.proofs.Common.{◌≡◌, ℕ, ◌≤◌, true, List, ◌∷◌, ◌++◌, length, drop, sym, refl, ap, ◌∙◌, append_assoc, arith}
use Rattle.std.proofs.lemmas.Bool.{and_parts}
use Rattle.weave.specs.Rows.{Row, one, then, times, turned, run}
use Rattle.weave.specs.Promise.{field, fields_in}
use Rattle.encoding.specs.Numbers.{four, number_in, Bytes}
use Rattle.encoding.specs.Rows.{row_bytes}
use Rattle.encoding.specs.Parts.{NoPart}
use Rattle.encoding.proofs.Numbers.{four_back, four_split, bytes_drop}

module _ (bs mid : List ℕ) (k : ℕ) (typed : Bytes bs) (e : bs ≡ k ∷ mid) (n : ℕ) (left : List ℕ) (h : 4 ≤ length mid) (is : n ≡ number_in mid) (l : left ≡ drop 4 mid) where
  typed_mid : Bytes mid
  typed_mid = rw e at (bytes_drop 1 bs typed)

  pub opened_number : (field n ≡ true) × (bs ≡ k ∷ (four n ++ left))
  opened_number =
      let p = four_split mid typed_mid h in
      (rw is p.0, e ∙ ap (λ w. k ∷ w) (p.1 ∙ (ap (λ (x : ℕ). four x ++ drop 4 mid) (sym is) ∙ ap (λ w. four n ++ w) (sym l))))

  pub opened_two : (b : ℕ) (rest : List ℕ) → 4 ≤ length left → b ≡ number_in left → rest ≡ drop 4 left → (field n ≡ true) × (field b ≡ true) × (bs ≡ k ∷ (four n ++ (four b ++ rest)))
  opened_two b rest h2 is2 l2 =
      let p = opened_number in
      let q = four_split left (rw l (bytes_drop 4 mid typed_mid)) h2 in
      (p.0, rw is2 q.0, p.1 ∙ ap (λ w. k ∷ (four n ++ w)) (q.1 ∙ (ap (λ (x : ℕ). four x ++ drop 4 left) (sym is2) ∙ ap (λ w. four b ++ w) (sym l2))))

-- bytes that begin with a row have an outermost part
pub has_part : (r : Row) (bs rest : List ℕ) → NoPart bs → bs ≡ row_bytes r ++ rest → ⊥
unfolding row_bytes
has_part (one n) bs rest h e = let z = rw e at h in omega (arith, z (omega arith))
has_part (then a b) bs rest h e = let z = rw e at h in omega (arith, z (omega arith))
has_part (times n a) bs rest h e = let z = rw e at h in omega (arith, z (omega arith))
has_part (turned a) bs rest h e = let z = rw e at h in omega (arith, z (omega arith))
has_part (run a b) bs rest h e = let z = rw e at h in omega (arith, z (omega arith))

four_same : (m n : ℕ) (xs ys : List ℕ) → field m ≡ true → field n ≡ true → four m ++ xs ≡ four n ++ ys → (m ≡ n) × (xs ≡ ys)
four_same m n xs ys f g e = (sym (four_back m xs f) ∙ (ap number_in e ∙ four_back n ys g), ap (drop 4) e)

module _ (bs rest left : List ℕ) where
  pub one_head : (n : ℕ) → field n ≡ true → bs ≡ 0 ∷ (four n ++ left) → (r : Row) → bs ≡ row_bytes r ++ rest → fields_in r ≡ true → (r ≡ one n) × (left ≡ rest)
  unfolding row_bytes fields_in
  one_head n g o (one m) e f = let p = four_same n m left rest g f (ap (drop 1) (sym o ∙ e)) in (ap one (sym p.0), p.1)
  one_head n g o (then a b) e f = cc
  one_head n g o (times m a) e f = cc
  one_head n g o (turned a) e f = cc
  one_head n g o (run a b) e f = cc

  pub then_head : bs ≡ 1 ∷ left → (r : Row) → bs ≡ row_bytes r ++ rest → (a : Row) × (b : Row) × (r ≡ then a b) × (left ≡ row_bytes a ++ (row_bytes b ++ rest))
  unfolding row_bytes
  then_head o (then a b) e = (a, b, refl, ap (drop 1) (sym o ∙ e) ∙ append_assoc (row_bytes a) (row_bytes b) rest)
  then_head o (one m) e = cc
  then_head o (times m a) e = cc
  then_head o (turned a) e = cc
  then_head o (run a b) e = cc

  pub times_head : (n : ℕ) → field n ≡ true → bs ≡ 2 ∷ (four n ++ left) → (r : Row) → bs ≡ row_bytes r ++ rest → fields_in r ≡ true → (a : Row) × (r ≡ times n a) × (left ≡ row_bytes a ++ rest)
  unfolding row_bytes fields_in
  times_head n g o (times m a) e f =
      let p = four_same n m left (row_bytes a ++ rest) g (and_parts (field m) (fields_in a) f).0 (ap (drop 1) (sym o ∙ e)) in
      (a, ap (λ (k : ℕ). times k a) (sym p.0), p.1)
  times_head n g o (one m) e f = cc
  times_head n g o (then a b) e f = cc
  times_head n g o (turned a) e f = cc
  times_head n g o (run a b) e f = cc

  pub turned_head : bs ≡ 3 ∷ left → (r : Row) → bs ≡ row_bytes r ++ rest → (a : Row) × (r ≡ turned a) × (left ≡ row_bytes a ++ rest)
  unfolding row_bytes
  turned_head o (turned a) e = (a, refl, ap (drop 1) (sym o ∙ e))
  turned_head o (one m) e = cc
  turned_head o (then a b) e = cc
  turned_head o (times m a) e = cc
  turned_head o (run a b) e = cc

  pub run_head : (m n : ℕ) → field m ≡ true → field n ≡ true → bs ≡ 4 ∷ (four m ++ (four n ++ left)) → (r : Row) → bs ≡ row_bytes r ++ rest → fields_in r ≡ true → (r ≡ run m n) × (left ≡ rest)
  unfolding row_bytes fields_in
  run_head m n g h o (run a b) e f =
      let q = and_parts (field a) (field b) f in
      let p = four_same m a (four n ++ left) (four b ++ rest) g q.0 (ap (drop 1) (sym o ∙ e)) in
      let s = four_same n b left rest h q.1 p.1 in
      (ap (λ (k : ℕ). run k b) (sym p.0) ∙ ap (run m) (sym s.0), s.1)
  run_head m n g h o (one k) e f = cc
  run_head m n g h o (then a b) e f = cc
  run_head m n g h o (times k a) e f = cc
  run_head m n g h o (turned a) e f = cc
