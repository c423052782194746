-- Rows as bytes: a row that is written is read, bytes that are read are those of the row, and how far reading can go.
use Rattle.std.proofs.Common.{◌≡◌, ℕ, zero, suc, ◌+◌, ◌-◌, ◌*◌, ◌≤◌, Bool, true, false, ◌&&◌, ltb, leb, List, [], ◌∷◌, ◌++◌, length, take, drop, sym, refl, ap, ◌∙◌, subst, append_assoc, arith, length-append, length-drop, drop-drop}
use Rattle.std.proofs.lemmas.List.{append-nil, take_at}
use Rattle.std.proofs.lemmas.Bool.{cond_both, ltb-true, ltb-false, leb-true, leb-false, lt-ltb, le-ltb, le-leb, and_parts, and_from}
use Rattle.weave.specs.Rows.{Row, one, then, times, turned, run, pick, size, deep}
use Rattle.weave.specs.Promise.{field, fields_in, carried}
use Rattle.encoding.specs.Numbers.{four, number_in, Bytes}
use Rattle.encoding.specs.Rows.{row_bytes, Read, got, bad, around, second, part_in, row_in, row_read, row_of, Skip, past, stop, skip_of, HoldsRow}
use Rattle.encoding.proofs.Numbers.{four_back, four_split, bytes_drop}
use Rattle.encoding.proofs.Reading.{row_step, around_skip}

-- the deeper of two
deeper_parts : (b : Bool) (x y d : ℕ) → leb x y ≡ b → pick b y x ≤ d → (x ≤ d) × (y ≤ d)
deeper_parts true x y d e h = let k = leb-true x y e in (omega arith, omega arith)
deeper_parts false x y d e h = let k = leb-false x y e in (omega arith, omega arith)

deeper_from : (b : Bool) (x y d : ℕ) → x ≤ d → y ≤ d → pick b y x ≤ d
deeper_from true x y d h g = g
deeper_from false x y d h g = h

-- a row that is written is read, up to its end
pub row_back : (r : Row) (d n : ℕ) (bs : List ℕ) → fields_in r ≡ true → deep r ≤ d → size r ≤ n → row_in d n (row_bytes r ++ bs) ≡ got r (n - size r) bs
unfolding row_bytes deep size fields_in part_in second around
row_back (one m) d n bs f hd hn =
    row_step d n 0 (row_bytes (one m) ++ bs) (four m ++ bs) (omega arith) (omega arith) refl
    ∙ rw (le-ltb (length (four m ++ bs)) 4 (omega arith), four_back m bs f) refl
row_back (then r s) d n bs f hd hn =
    let fs = and_parts (fields_in r) (fields_in s) f in
    let ds = deeper_parts (leb (deep r) (deep s)) (deep r) (deep s) (d - 1) refl (omega arith) in
    row_step d n 1 (row_bytes (then r s) ++ bs) ((row_bytes r ++ row_bytes s) ++ bs) (omega arith) (omega arith) refl
    ∙ rw (
      append_assoc (row_bytes r) (row_bytes s) bs,
      row_back r (d - 1) (n - 1) (row_bytes s ++ bs) fs.0 ds.0 (omega arith),
      row_back s (d - 1) ((n - 1) - size r) bs fs.1 ds.1 (omega arith),
    )
    (ap (λ (k : ℕ). got (then r s) k bs) (omega arith))
row_back (times m r) d n bs f hd hn =
    let fs = and_parts (field m) (fields_in r) f in
    row_step d n 2 (row_bytes (times m r) ++ bs) (four m ++ (row_bytes r ++ bs)) (omega arith) (omega arith) refl
    ∙ rw (le-ltb (length (four m ++ (row_bytes r ++ bs))) 4 (omega arith), four_back m (row_bytes r ++ bs) fs.0, row_back r (d - 1) (n - 1) bs fs.1 (omega arith) (omega arith))
    (ap (λ (k : ℕ). got (times m r) k bs) (omega arith))
row_back (turned r) d n bs f hd hn =
    row_step d n 3 (row_bytes (turned r) ++ bs) (row_bytes r ++ bs) (omega arith) (omega arith) refl
    ∙ rw (row_back r (d - 1) (n - 1) bs f (omega arith) (omega arith))
    (ap (λ (k : ℕ). got (turned r) k bs) (omega arith))
row_back (run a b) d n bs f hd hn =
    let fs = and_parts (field a) (field b) f in
    row_step d n 4 (row_bytes (run a b) ++ bs) (four a ++ (four b ++ bs)) (omega arith) (omega arith) refl
    ∙ rw (le-ltb (length (four a ++ (four b ++ bs))) 8 (omega arith), four_back a (four b ++ bs) fs.0, four_back b bs fs.1) refl

-- what is so of a row that was read from bytes
abbrev pub RowSo : ℕ → ℕ → List ℕ → Read → Type 0
RowSo d n bs (got r m cs) = (bs ≡ row_bytes r ++ cs) × (fields_in r ≡ true) × (deep r ≤ d) × (size r + m ≡ n) × Bytes cs
RowSo d n bs (bad p) = Unit {0}

one_so : (d n : ℕ) (bs : List ℕ) → Bytes bs → 4 ≤ length bs → RowSo (suc d) (suc n) (0 ∷ bs) (got (one (number_in bs)) n (drop 4 bs))
unfolding row_bytes fields_in deep size
one_so d n bs h l = let p = four_split bs h l in (ap (λ (w : List ℕ). 0 ∷ w) p.1, p.0, omega arith, omega arith, bytes_drop 4 bs h)

run_so : (d n : ℕ) (bs : List ℕ) → Bytes bs → 8 ≤ length bs → RowSo (suc d) (suc n) (4 ∷ bs) (got (run (number_in bs) (number_in (drop 4 bs))) n (drop 8 bs))
unfolding row_bytes fields_in deep size
run_so d n bs h l =
    let p = four_split bs h (omega arith) in
    let q = four_split (drop 4 bs) (bytes_drop 4 bs h) (simp length-drop (omega arith)) in
    let e : drop 4 (drop 4 bs) ≡ drop 8 bs = drop-drop 4 4 bs in (
      ap (λ (w : List ℕ). 4 ∷ w) (p.1 ∙ (ap (λ (w : List ℕ). four (number_in bs) ++ w) (q.1 ∙ ap (λ (w : List ℕ). four (number_in (drop 4 bs)) ++ w) e))),
      and_from (field (number_in bs)) (field (number_in (drop 4 bs))) p.0 q.0,
      omega arith,
      omega arith,
      bytes_drop 8 bs h,
    )

times_so : (d n : ℕ) (bs : List ℕ) → Bytes bs → 4 ≤ length bs → (x : Read) → RowSo d n (drop 4 bs) x → RowSo (suc d) (suc n) (2 ∷ bs) (around (times (number_in bs)) x)
unfolding row_bytes fields_in deep size around
times_so d n bs h l (got r m cs) w =
    let p = four_split bs h l in
    (ap (λ (v : List ℕ). 2 ∷ v) (p.1 ∙ ap (λ (v : List ℕ). four (number_in bs) ++ v) w.0), and_from (field (number_in bs)) (fields_in r) p.0 w.1, omega arith, omega arith, w.4)
times_so d n bs h l (bad p) w = tt

turned_so : (d n : ℕ) (bs : List ℕ) (x : Read) → RowSo d n bs x → RowSo (suc d) (suc n) (3 ∷ bs) (around turned x)
unfolding row_bytes fields_in deep size around
turned_so d n bs (got r m cs) w = (ap (λ (v : List ℕ). 3 ∷ v) w.0, w.1, omega arith, omega arith, w.4)
turned_so d n bs (bad p) w = tt

both_so : (d n m : ℕ) (bs cs : List ℕ) (r : Row) → RowSo d n bs (got r m cs) → (y : Read) → RowSo d m cs y → RowSo (suc d) (suc n) (1 ∷ bs) (around (then r) y)
unfolding row_bytes fields_in deep size around
both_so d n m bs cs r w (got s k es) v =
    let p : pick (leb (deep r) (deep s)) (deep s) (deep r) ≤ d = deeper_from (leb (deep r) (deep s)) (deep r) (deep s) d w.2 v.2 in (
      ap (λ (u : List ℕ). 1 ∷ u) (w.0 ∙ (ap (λ (u : List ℕ). row_bytes r ++ u) v.0 ∙ sym (append_assoc (row_bytes r) (row_bytes s) es))),
      and_from (fields_in r) (fields_in s) w.1 v.1,
      omega arith,
      omega arith,
      v.4,
    )
both_so d n m bs cs r w (bad p) v = tt

module _ (f : ℕ → List ℕ → Read) (d : ℕ) (ih : (n : ℕ) (bs : List ℕ) → Bytes bs → RowSo d n bs (f n bs)) where
  second_so : (n : ℕ) (bs : List ℕ) (x : Read) → RowSo d n bs x → RowSo (suc d) (suc n) (1 ∷ bs) (second f x)
  unfolding second
  second_so n bs (got r m cs) w = both_so d n m bs cs r w (f m cs) (ih m cs w.4)
  second_so n bs (bad p) w = tt

  part_so : (k n : ℕ) (bs : List ℕ) → Bytes bs → RowSo (suc d) (suc n) (k ∷ bs) (part_in f k n bs)
  unfolding part_in
  part_so zero n bs h =
      cond_both (ltb (length bs) 4) (bad 0) (got (one (number_in bs)) n (drop 4 bs)) (RowSo (suc d) (suc n) (0 ∷ bs)) (λ e. tt) (λ e. one_so d n bs h (ltb-false (length bs) 4 e))
  part_so (suc zero) n bs h = second_so n bs (f n bs) (ih n bs h)
  part_so (suc (suc zero)) n bs h =
      cond_both (ltb (length bs) 4) (bad 0) (around (times (number_in bs)) (f n (drop 4 bs))) (RowSo (suc d) (suc n) (2 ∷ bs)) (λ e. tt)
      (λ e. times_so d n bs h (ltb-false (length bs) 4 e) (f n (drop 4 bs)) (ih n (drop 4 bs) (bytes_drop 4 bs h)))
  part_so (suc (suc (suc zero))) n bs h = turned_so d n bs (f n bs) (ih n bs h)
  part_so (suc (suc (suc (suc zero)))) n bs h =
      cond_both (ltb (length bs) 8) (bad 0) (got (run (number_in bs) (number_in (drop 4 bs))) n (drop 8 bs)) (RowSo (suc d) (suc n) (4 ∷ bs)) (λ e. tt) (λ e. run_so d n bs h (ltb-false (length bs) 8 e))
  part_so (suc (suc (suc (suc (suc k))))) n bs h = tt

pub row_so : (d n : ℕ) (bs : List ℕ) → Bytes bs → RowSo d n bs (row_in d n bs)
unfolding row_in
row_so zero n bs h = tt
row_so (suc d) zero bs h = tt
row_so (suc d) (suc n) [] h = tt
row_so (suc d) (suc n) (k ∷ bs) h = part_so (row_in d) d (row_so d) k n bs (λ i. h (suc i))

pub carried_from : (r : Row) → fields_in r ≡ true → size r ≤ 1024 → deep r ≤ 255 → carried r ≡ true
carried_from r f hs hd =
    and_from (fields_in r) (leb (size r) 1024 && ltb (deep r) 256) f
    (and_from (leb (size r) 1024) (ltb (deep r) 256) (le-leb (size r) 1024 hs) (lt-ltb (deep r) 256 (omega arith)))

pub carried_parts : (r : Row) → carried r ≡ true → (fields_in r ≡ true) × (size r ≤ 1024) × (deep r ≤ 255)
carried_parts r h =
    let a = and_parts (fields_in r) (leb (size r) 1024 && ltb (deep r) 256) h in
    let b = and_parts (leb (size r) 1024) (ltb (deep r) 256) a.1 in
    let hd = ltb-true (deep r) 256 b.1 in
    (a.0, leb-true (size r) 1024 b.0, omega arith)

-- a row that bytes can carry is read back, whatever follows
pub carried_back : (r : Row) (bs : List ℕ) → carried r ≡ true → row_read (row_bytes r ++ bs) ≡ got r (1024 - size r) bs
unfolding row_read
carried_back r bs h = let p = carried_parts r h in row_back r 255 1024 bs p.0 p.2 p.1

-- what is so of a row that was read within the limits
abbrev pub ReadSo : List ℕ → Read → Type 0
ReadSo bs (got r m cs) = (bs ≡ row_bytes r ++ cs) × (carried r ≡ true)
ReadSo bs (bad p) = Unit {0}

read_from : (bs : List ℕ) (x : Read) → RowSo 255 1024 bs x → ReadSo bs x
read_from bs (got r m cs) w = (w.0, carried_from r w.1 (omega (arith, w.3)) w.2)
read_from bs (bad p) w = tt

pub read_so : (bs : List ℕ) → Bytes bs → ReadSo bs (row_read bs)
unfolding row_read
read_so bs h = read_from bs (row_in 255 1024 bs) (row_so 255 1024 bs h)

-- the bytes of a row hold it
pub holds_row : (r : Row) → carried r ≡ true → (row_of (row_read (row_bytes r)) ≡ r) × HoldsRow (row_bytes r)
holds_row r h =
    let e : row_read (row_bytes r) ≡ got r (1024 - size r) [] = rw append-nil at (carried_back r [] h) in
    let f : row_of (row_read (row_bytes r)) ≡ r = ap row_of e in
    (f, (ap row_bytes (sym f), ap carried f ∙ h))

-- where a row was skipped: the row is that of the part before what is left
abbrev pub Skipped : List ℕ → List ℕ → Read → Type 0
Skipped ps cs (got r m es) = (r ≡ row_of (row_read ps)) × (es ≡ cs)
Skipped ps cs (bad p) = ⊥

skipped_from : (bs ps : List ℕ) (n : ℕ) (cs : List ℕ) (x : Read) → ReadSo bs x → past n cs ≡ skip_of x → ps ≡ take (length bs - length cs) bs → Skipped ps cs x × HoldsRow ps
skipped_from bs ps n cs (got r m es) w e ep =
    let ee : es ≡ cs = cc in
    let l : length bs ≡ length (row_bytes r) + length es = ap length w.0 ∙ length-append (row_bytes r) es in
    let k : length (row_bytes r) ≡ length bs - length cs = omega (arith, ap length ee) in
    let q : ps ≡ row_bytes r = ep ∙ (ap (take (length bs - length cs)) w.0 ∙ take_at (row_bytes r) es (length bs - length cs) k) in
    let h = holds_row r w.1 in
    ((sym h.0 ∙ ap (λ (v : List ℕ). row_of (row_read v)) (sym q), ee), subst HoldsRow (sym q) h.1)
skipped_from bs ps n cs (bad p) w e ep = let z : ◌≡◌ {A = ℕ} 0 1 = cc in absurd (omega arith)

pub row_skipped : (bs ps : List ℕ) (n : ℕ) (cs : List ℕ) → Bytes bs → past n cs ≡ skip_of (row_in 255 1024 bs) → ps ≡ take (length bs - length cs) bs → Skipped ps cs (row_read bs) × HoldsRow ps
unfolding row_read
row_skipped bs ps n cs h e ep = skipped_from bs ps n cs (row_in 255 1024 bs) (read_from bs (row_in 255 1024 bs) (row_so 255 1024 bs h)) e ep

-- how far reading can go: at most nine bytes a part, of l bytes, with n parts allowed
abbrev pub Within : ℕ → ℕ → Skip → Type 0
Within n l (past k cs) = (k ≤ n) × (length cs ≤ l) × (l ≤ length cs + 9 * (n - k))
Within n l (stop p) = (p ≤ l) × (l ≤ p + 9 * n)

wider : (n l m : ℕ) (s : Skip) → l ≤ m → m ≤ l + 9 → Within n l s → Within (suc n) m s
wider n l m (past k cs) h g w = (omega arith, omega arith, omega arith)
wider n l m (stop p) h g w = (omega arith, omega arith)

joined : (n l k j : ℕ) (s : Skip) → k ≤ n → j ≤ l → l ≤ j + 9 * (n - k) → Within k j s → Within (suc n) (suc l) s
joined n l k j (past i cs) a b c w = (omega arith, omega arith, omega arith)
joined n l k j (stop p) a b c w = (omega arith, omega arith)

module _ (f : ℕ → List ℕ → Read) (ih : (n : ℕ) (bs : List ℕ) → Within n (length bs) (skip_of (f n bs))) where
  second_within : (n l : ℕ) (x : Read) → Within n l (skip_of x) → Within (suc n) (suc l) (skip_of (second f x))
  unfolding second
  second_within n l (got r k cs) w = rw (← around_skip) (joined n l k (length cs) (skip_of (f k cs)) w.0 w.1 w.2 (ih k cs))
  second_within n l (bad p) w = (omega arith, omega arith)

  part_within : (k n : ℕ) (bs : List ℕ) → Within (suc n) (suc (length bs)) (skip_of (part_in f k n bs))
  unfolding part_in
  part_within zero n bs =
      cond_both (ltb (length bs) 4) (bad 0) (got (one (number_in bs)) n (drop 4 bs)) (λ z. Within (suc n) (suc (length bs)) (skip_of z))
      (λ e. let h = ltb-true (length bs) 4 e in (omega arith, omega arith))
      (λ e. let h = ltb-false (length bs) 4 e in let g = length-drop 4 bs in (omega arith, omega arith, omega arith))
  part_within (suc zero) n bs = second_within n (length bs) (f n bs) (ih n bs)
  part_within (suc (suc zero)) n bs =
      cond_both (ltb (length bs) 4) (bad 0) (around (times (number_in bs)) (f n (drop 4 bs))) (λ z. Within (suc n) (suc (length bs)) (skip_of z))
      (λ e. let h = ltb-true (length bs) 4 e in (omega arith, omega arith))
      (λ e. let h = ltb-false (length bs) 4 e in let g = length-drop 4 bs in
      rw (← around_skip) (wider n (length (drop 4 bs)) (suc (length bs)) (skip_of (f n (drop 4 bs))) (omega arith) (omega arith) (ih n (drop 4 bs))))
  part_within (suc (suc (suc zero))) n bs = rw (← around_skip) (wider n (length bs) (suc (length bs)) (skip_of (f n bs)) (omega arith) (omega arith) (ih n bs))
  part_within (suc (suc (suc (suc zero)))) n bs =
      cond_both (ltb (length bs) 8) (bad 0) (got (run (number_in bs) (number_in (drop 4 bs))) n (drop 8 bs)) (λ z. Within (suc n) (suc (length bs)) (skip_of z))
      (λ e. let h = ltb-true (length bs) 8 e in (omega arith, omega arith))
      (λ e. let h = ltb-false (length bs) 8 e in let g = length-drop 8 bs in (omega arith, omega arith, omega arith))
  part_within (suc (suc (suc (suc (suc k))))) n bs = (omega arith, omega arith)

pub row_within : (d n : ℕ) (bs : List ℕ) → Within n (length bs) (skip_of (row_in d n bs))
unfolding row_in
row_within zero n bs = (omega arith, omega arith)
row_within (suc d) zero bs = (omega arith, omega arith)
row_within (suc d) (suc n) [] = (omega arith, omega arith)
row_within (suc d) (suc n) (k ∷ bs) = part_within (row_in d) (row_within d) k n bs
