-- The place that is told of bytes that are no row, or no call, is the first that fits none.
use Rattle.std.proofs.Common.{◌≡◌, ℕ, zero, suc, ◌+◌, ◌-◌, ◌<◌, ◌≤◌, true, ◌&&◌, ltb, ◌⊎◌, List, [], ◌∷◌, ◌++◌, length, get_or, drop, replicate, sym, refl, ap, ◌∙◌, subst, inl, inr, append_assoc, arith, length-append}
use Rattle.std.proofs.lemmas.List.{append-nil, get_or_append_left, get_or-append_right, get_or-replicate, get_or_past, length-replicate}
use Rattle.std.proofs.lemmas.Bool.{cases_lt, cond_both, ltb-true, ltb-false, and_parts, and_from}
use Rattle.weave.specs.Rows.{Row, one, then, times, turned, run, size, deep}
use Rattle.weave.specs.Promise.{field, fields_in}
use Rattle.encoding.specs.Numbers.{four, number_in, Bytes}
use Rattle.encoding.specs.Rows.{row_bytes, Read, got, bad, around, second, part_in, row_in}
use Rattle.encoding.specs.Laws.{Stands, outermost, in_first, in_second, in_times, in_turned}
use Rattle.encoding.proofs.Numbers.{four_split, bytes_drop}
use Rattle.encoding.proofs.Rows.{row_back, RowSo, row_so}
use Rattle.encoding.proofs.Calls.{two_split, three_split}

-- bytes begin with one row at most
pub one_row : (r s : Row) (us vs : List ℕ) → fields_in r ≡ true → fields_in s ≡ true → row_bytes r ++ us ≡ row_bytes s ++ vs → us ≡ vs
one_row r s us vs hr hs q =
    let d : ℕ = deep r + deep s in
    let n : ℕ = size r + size s in
    let e : got r (n - size r) us ≡ got s (n - size s) vs = sym (row_back r d n us hr (omega arith) (omega arith)) ∙ (ap (row_in d n) q ∙ row_back s d n vs hs (omega arith) (omega arith)) in
    cc

-- a list that begins with another
pub front : (us zs ps qs : List ℕ) → us ++ zs ≡ ps ++ qs → length us ≤ length ps → (ws : List ℕ) × (ps ≡ us ++ ws)
front [] zs ps qs e h = (ps, refl)
front (u ∷ us) zs [] qs e h = absurd (omega arith)
front (u ∷ us) zs (p ∷ ps) qs e h =
    let a : u ≡ p = cc in
    let b : us ++ zs ≡ ps ++ qs = cc in
    let w = front us zs ps qs b (omega arith) in
    (w.0, cc w.1)

-- bytes with zeros behind them
zeros : ℕ → List ℕ → List ℕ
zeros k bs = bs ++ replicate k 0

bytes_zeros : (k : ℕ) (bs : List ℕ) → Bytes bs → Bytes (zeros k bs)
unfolding zeros
bytes_zeros k bs h i = elim (cases_lt i (length bs)) [
  | inl l ↦ rw (get_or_append_left bs (replicate k 0) 0 i l) (h i)
  | inr l ↦ rw (get_or-append_right bs (replicate k 0) (length bs) i 0 refl l) (zero_at (i - length bs))
]
  where
    zero_at : (j : ℕ) → get_or {A = ℕ} (replicate k 0) j 0 < 256
    zero_at j = elim (cases_lt j k) [
      | inl l ↦ rw (get_or-replicate {A = ℕ} k j 0 0 l) (omega arith)
      | inr l ↦ rw (get_or_past {X = ℕ} (replicate k 0) j 0 (let e = length-replicate {A = ℕ} k 0 in omega arith)) (omega arith)
    ]

long_zeros : (k : ℕ) (bs : List ℕ) → k ≤ length (zeros k bs)
unfolding zeros
long_zeros k bs = let a = length-append bs (replicate k 0) in let b = length-replicate {A = ℕ} k 0 in omega arith

-- some number, or two, or three, begin with too few bytes
pub fill_one : (bs : List ℕ) → Bytes bs → length bs ≤ 4 → (m : ℕ) × (field m ≡ true) × (zs : List ℕ) × (four m ≡ bs ++ zs)
unfolding zeros
fill_one bs h l =
    let p = four_split (zeros 4 bs) (bytes_zeros 4 bs h) (long_zeros 4 bs) in
    let w = front bs (replicate 4 0) (four (number_in (zeros 4 bs))) (drop 4 (zeros 4 bs)) p.1 l in
    (number_in (zeros 4 bs), p.0, w.0, w.1)

pub fill_two : (bs : List ℕ) → Bytes bs → length bs ≤ 8 → (a b : ℕ) × (field a && field b ≡ true) × (zs : List ℕ) × (four a ++ four b ≡ bs ++ zs)
unfolding zeros
fill_two bs h l =
    let p = two_split (zeros 8 bs) (bytes_zeros 8 bs h) (long_zeros 8 bs) in
    let w = front bs (replicate 8 0) (four (number_in (zeros 8 bs)) ++ four (number_in (drop 4 (zeros 8 bs)))) (drop 8 (zeros 8 bs)) p.1 l in
    (number_in (zeros 8 bs), number_in (drop 4 (zeros 8 bs)), p.0, w.0, w.1)

pub fill_three : (bs : List ℕ) → Bytes bs → length bs ≤ 12 → (a b c : ℕ) × (field a && (field b && field c) ≡ true) × (zs : List ℕ) × (four a ++ (four b ++ four c) ≡ bs ++ zs)
unfolding zeros
fill_three bs h l =
    let p = three_split (zeros 12 bs) (bytes_zeros 12 bs h) (long_zeros 12 bs) in
    let w = front bs (replicate 12 0) (four (number_in (zeros 12 bs)) ++ (four (number_in (drop 4 (zeros 12 bs))) ++ four (number_in (drop 8 (zeros 12 bs))))) (drop 12 (zeros 12 bs)) p.1 l in
    (number_in (zeros 12 bs), number_in (drop 4 (zeros 12 bs)), number_in (drop 8 (zeros 12 bs)), p.0, w.0, w.1)

-- what rows are that begin with a byte
row_some : (r : Row) (ws : List ℕ) → row_bytes r ++ ws ≡ [] → ⊥
unfolding row_bytes
row_some (one n) ws e = let l = ap length e in omega arith
row_some (then r s) ws e = let l = ap length e in omega arith
row_some (times n r) ws e = let l = ap length e in omega arith
row_some (turned r) ws e = let l = ap length e in omega arith
row_some (run a b) ws e = let l = ap length e in omega arith

row_kind : (r : Row) (ws : List ℕ) (k : ℕ) (bs : List ℕ) → row_bytes r ++ ws ≡ k ∷ bs → k ≤ 4
unfolding row_bytes
row_kind (one n) ws k bs e = let z : 0 ≡ k = cc in omega arith
row_kind (then r s) ws k bs e = let z : 1 ≡ k = cc in omega arith
row_kind (times n r) ws k bs e = let z : 2 ≡ k = cc in omega arith
row_kind (turned r) ws k bs e = let z : 3 ≡ k = cc in omega arith
row_kind (run a b) ws k bs e = let z : 4 ≡ k = cc in omega arith

one_long : (r : Row) (ws bs : List ℕ) → row_bytes r ++ ws ≡ 0 ∷ bs → 4 ≤ length bs
unfolding row_bytes
one_long (one n) ws bs e = let l = ap length e in omega arith
one_long (then r s) ws bs e = let z : ◌≡◌ {A = ℕ} 1 0 = cc in absurd (omega arith)
one_long (times n r) ws bs e = let z : ◌≡◌ {A = ℕ} 2 0 = cc in absurd (omega arith)
one_long (turned r) ws bs e = let z : ◌≡◌ {A = ℕ} 3 0 = cc in absurd (omega arith)
one_long (run a b) ws bs e = let z : ◌≡◌ {A = ℕ} 4 0 = cc in absurd (omega arith)

run_long : (r : Row) (ws bs : List ℕ) → row_bytes r ++ ws ≡ 4 ∷ bs → 8 ≤ length bs
unfolding row_bytes
run_long (one n) ws bs e = let z : ◌≡◌ {A = ℕ} 0 4 = cc in absurd (omega arith)
run_long (then r s) ws bs e = let z : ◌≡◌ {A = ℕ} 1 4 = cc in absurd (omega arith)
run_long (times n r) ws bs e = let z : ◌≡◌ {A = ℕ} 2 4 = cc in absurd (omega arith)
run_long (turned r) ws bs e = let z : ◌≡◌ {A = ℕ} 3 4 = cc in absurd (omega arith)
run_long (run a b) ws bs e = let l = ap length e in omega arith

then_is : (r : Row) (ws bs : List ℕ) → fields_in r ≡ true → row_bytes r ++ ws ≡ 1 ∷ bs → (a b : Row) × (fields_in a ≡ true) × (fields_in b ≡ true) × (row_bytes a ++ (row_bytes b ++ ws) ≡ bs)
unfolding row_bytes fields_in
then_is (one n) ws bs f e = let z : ◌≡◌ {A = ℕ} 0 1 = cc in absurd (omega arith)
then_is (then r s) ws bs f e =
    let p = and_parts (fields_in r) (fields_in s) f in
    let z : (row_bytes r ++ row_bytes s) ++ ws ≡ bs = cc in
    (r, s, p.0, p.1, sym (append_assoc (row_bytes r) (row_bytes s) ws) ∙ z)
then_is (times n r) ws bs f e = let z : ◌≡◌ {A = ℕ} 2 1 = cc in absurd (omega arith)
then_is (turned r) ws bs f e = let z : ◌≡◌ {A = ℕ} 3 1 = cc in absurd (omega arith)
then_is (run a b) ws bs f e = let z : ◌≡◌ {A = ℕ} 4 1 = cc in absurd (omega arith)

times_is : (r : Row) (ws bs : List ℕ) → fields_in r ≡ true → row_bytes r ++ ws ≡ 2 ∷ bs → (m : ℕ) × (a : Row) × (fields_in a ≡ true) × (four m ++ (row_bytes a ++ ws) ≡ bs)
unfolding row_bytes fields_in
times_is (one n) ws bs f e = let z : ◌≡◌ {A = ℕ} 0 2 = cc in absurd (omega arith)
times_is (then r s) ws bs f e = let z : ◌≡◌ {A = ℕ} 1 2 = cc in absurd (omega arith)
times_is (times n r) ws bs f e = (n, r, (and_parts (field n) (fields_in r) f).1, cc)
times_is (turned r) ws bs f e = let z : ◌≡◌ {A = ℕ} 3 2 = cc in absurd (omega arith)
times_is (run a b) ws bs f e = let z : ◌≡◌ {A = ℕ} 4 2 = cc in absurd (omega arith)

turned_is : (r : Row) (ws bs : List ℕ) → fields_in r ≡ true → row_bytes r ++ ws ≡ 3 ∷ bs → (a : Row) × (fields_in a ≡ true) × (row_bytes a ++ ws ≡ bs)
unfolding row_bytes fields_in
turned_is (one n) ws bs f e = let z : ◌≡◌ {A = ℕ} 0 3 = cc in absurd (omega arith)
turned_is (then r s) ws bs f e = let z : ◌≡◌ {A = ℕ} 1 3 = cc in absurd (omega arith)
turned_is (times n r) ws bs f e = let z : ◌≡◌ {A = ℕ} 2 3 = cc in absurd (omega arith)
turned_is (turned r) ws bs f e = (r, f, cc)
turned_is (run a b) ws bs f e = let z : ◌≡◌ {A = ℕ} 4 3 = cc in absurd (omega arith)

-- where reading stops, behind us and before vs, in a row r that begins with us: bytes are missing, or the next fits no row, or a part begins that is one too many (number n) or too deep (more than d)
abbrev pub End : ℕ → ℕ → List ℕ → Row → List ℕ → Type 0
End d n us r [] = (s : Row) (ws : List ℕ) → fields_in s ≡ true → row_bytes s ++ ws ≡ us → ⊥
End d n us r (x ∷ vs) =
    ((s : Row) (ws zs : List ℕ) → fields_in s ≡ true → row_bytes s ++ ws ≡ us ++ (x ∷ zs) → ⊥) ⊎ ((i : ℕ) × (e : ℕ) × Stands r i e (length us) × ((i ≡ n) ⊎ (e ≡ suc d)))

pub record Miss (d n : ℕ) (bs : List ℕ) (left : ℕ) : Type 0 where
  pub us : List ℕ
  pub vs : List ℕ
  pub split : bs ≡ us ++ vs
  pub long : length vs ≡ left
  pub row : Row
  pub fields : fields_in row ≡ true
  pub zs : List ℕ
  pub starts : row_bytes row ≡ us ++ zs
  pub end : End d n us row vs

-- a row around another: pre and post are the bytes before and after the inner one, num and place tell where its parts stand
module _ (pre : List ℕ) (F : Row → Row) (num : ℕ → ℕ) (place : ℕ → ℕ) (post : List ℕ)
    (eb : (r : Row) → row_bytes (F r) ≡ pre ++ (row_bytes r ++ post))
    (ef : (r : Row) → fields_in r ≡ true → fields_in (F r) ≡ true)
    (es : (r : Row) (i e p : ℕ) → Stands r i e p → Stands (F r) (num i) (suc e) (place p))
    (el : (us : List ℕ) → place (length us) ≡ length (pre ++ us))
    (inner : (r : Row) (ws xs : List ℕ) → fields_in r ≡ true → row_bytes r ++ ws ≡ pre ++ xs → (a : Row) × (vs : List ℕ) × (fields_in a ≡ true) × (row_bytes a ++ vs ≡ xs)) where
  end_around : (d n m : ℕ) (us : List ℕ) (r : Row) (vs : List ℕ) → num n ≡ m → End d n us r vs → End (suc d) m (pre ++ us) (F r) vs
  end_around d n m us r [] q h = λ s ws f e. let p = inner s ws us f e in h p.0 p.1 p.2 p.3
  end_around d n m us r (x ∷ vs) q (inl h) =
      inl (λ s ws zs f e. let p = inner s ws (us ++ (x ∷ zs)) f (e ∙ append_assoc pre us (x ∷ zs)) in h p.0 p.1 zs p.2 p.3)
  end_around d n m us r (x ∷ vs) q (inr h) =
      inr (num h.0, suc h.1, subst (Stands (F r) (num h.0) (suc h.1)) (el us) (es r h.0 h.1 (length us) h.2), too_much h.3)
    where
      too_much : ((h.0 ≡ n) ⊎ (h.1 ≡ suc d)) → ((num h.0 ≡ m) ⊎ (suc h.1 ≡ suc (suc d)))
      too_much (inl a) = inl (ap num a ∙ q)
      too_much (inr a) = inr (ap suc a)

  pub miss_around : (d n m : ℕ) (bs cs : List ℕ) (left : ℕ) → num n ≡ m → cs ≡ pre ++ bs → Miss d n bs left → Miss (suc d) m cs left
  miss_around d n m bs cs left q ec w = record {
    us = pre ++ w.us;
    vs = w.vs;
    split = ec ∙ (ap (λ (v : List ℕ). pre ++ v) w.split ∙ sym (append_assoc pre w.us w.vs));
    long = w.long;
    row = F w.row;
    fields = ef w.row w.fields;
    zs = w.zs ++ post;
    starts = eb w.row ∙ (ap (λ (v : List ℕ). pre ++ (v ++ post)) w.starts ∙ (ap (λ (v : List ℕ). pre ++ v) (append_assoc w.us w.zs post) ∙ sym (append_assoc pre w.us (w.zs ++ post))));
    end = end_around d n m w.us w.row w.vs q w.end;
  }

-- a part that may not begin
miss_limit : (d n : ℕ) (bs : List ℕ) → ((0 ≡ n) ⊎ (1 ≡ suc d)) → Miss d n bs (length bs)
unfolding fields_in
miss_limit d n bs o = record { us = []; vs = bs; split = refl; long = refl; row = one 0; fields = refl; zs = row_bytes (one 0); starts = refl; end = end bs }
  where
    end : (vs : List ℕ) → End d n [] (one 0) vs
    end [] = λ s ws f e. row_some s ws e
    end (x ∷ vs) = inr (0, 1, outermost, o)

-- a byte that is no kind
miss_kind : (d n k : ℕ) (bs : List ℕ) → 4 < k → Miss d n (k ∷ bs) (suc (length bs))
unfolding fields_in
miss_kind d n k bs h =
    record { us = []; vs = k ∷ bs; split = refl; long = refl; row = one 0; fields = refl; zs = row_bytes (one 0); starts = refl; end = inl (λ s ws zs f e. let l = row_kind s ws k zs e in omega arith) }

-- bytes that are missing, where some row r begins with those that are there
miss_bytes : (d n : ℕ) (bs : List ℕ) (r : Row) (zs : List ℕ) → fields_in r ≡ true → row_bytes r ≡ bs ++ zs → ((s : Row) (ws : List ℕ) → fields_in s ≡ true → row_bytes s ++ ws ≡ bs → ⊥) → Miss d n bs 0
miss_bytes d n bs r zs f e h = record { us = bs; vs = []; split = sym (append-nil bs); long = refl; row = r; fields = f; zs = zs; starts = e; end = h }

miss_one : (d n : ℕ) (bs : List ℕ) → Bytes bs → length bs < 4 → Miss d n (0 ∷ bs) 0
unfolding fields_in row_bytes
miss_one d n bs h l =
    let p = fill_one bs h (omega arith) in
    miss_bytes d n (0 ∷ bs) (one p.0) p.2 p.1 (ap (λ (v : List ℕ). 0 ∷ v) p.3) (λ s ws f e. let k = one_long s ws bs e in omega arith)

miss_times : (d n : ℕ) (bs : List ℕ) → Bytes bs → length bs < 4 → Miss d n (2 ∷ bs) 0
unfolding fields_in row_bytes
miss_times d n bs h l =
    let p = fill_one bs h (omega arith) in
    miss_bytes d n (2 ∷ bs) (times p.0 (one 0)) (p.2 ++ row_bytes (one 0)) (and_from (field p.0) true p.1 refl)
    (ap (λ (v : List ℕ). 2 ∷ (v ++ row_bytes (one 0))) p.3 ∙ ap (λ (v : List ℕ). 2 ∷ v) (append_assoc bs p.2 (row_bytes (one 0))))
    (λ s ws f e. let k = times_is s ws bs f e in let j = ap length k.3 in omega arith)

miss_run : (d n : ℕ) (bs : List ℕ) → Bytes bs → length bs < 8 → Miss d n (4 ∷ bs) 0
unfolding fields_in row_bytes
miss_run d n bs h l =
    let p = fill_two bs h (omega arith) in
    miss_bytes d n (4 ∷ bs) (run p.0 p.1) p.3 p.2 (ap (λ (v : List ℕ). 4 ∷ v) p.4) (λ s ws f e. let k = run_long s ws bs e in omega arith)

-- a row that stops within one of its parts
miss_first : (d n : ℕ) (bs : List ℕ) (left : ℕ) → Miss d n bs left → Miss (suc d) (suc n) (1 ∷ bs) left
unfolding fields_in row_bytes
miss_first d n bs left w =
    miss_around (1 ∷ []) (λ r. then r (one 0)) suc suc (row_bytes (one 0)) (λ r. refl) (λ r f. and_from (fields_in r) true f refl) (λ r i e p s. in_first s) (λ us. refl)
    (λ r ws xs f e. let p = then_is r ws xs f e in (p.0, row_bytes p.1 ++ ws, p.2, p.4)) d n (suc n) bs (1 ∷ bs) left refl refl w

miss_second : (d n m : ℕ) (bs cs : List ℕ) (r : Row) (left : ℕ) → RowSo d n bs (got r m cs) → Miss d m cs left → Miss (suc d) (suc n) (1 ∷ bs) left
unfolding fields_in row_bytes
miss_second d n m bs cs r left so w =
    miss_around (1 ∷ row_bytes r) (then r) (λ i. suc (size r + i)) (λ p. suc (length (row_bytes r) + p)) [] (λ s. ap (λ (v : List ℕ). 1 ∷ (row_bytes r ++ v)) (sym (append-nil (row_bytes s))))
    (λ s f. and_from (fields_in r) (fields_in s) so.1 f) (λ s i e p t. in_second t) (λ us. ap suc (sym (length-append (row_bytes r) us)))
    (λ s ws xs f e. let p = then_is s ws (row_bytes r ++ xs) f e in (p.1, ws, p.3, one_row p.0 r (row_bytes p.1 ++ ws) xs p.2 so.1 p.4))
    d m (suc n) cs (1 ∷ bs) left (ap suc so.3) (ap (λ (v : List ℕ). 1 ∷ v) so.0) w

miss_repeated : (d n : ℕ) (bs : List ℕ) (left : ℕ) → Bytes bs → 4 ≤ length bs → Miss d n (drop 4 bs) left → Miss (suc d) (suc n) (2 ∷ bs) left
unfolding fields_in row_bytes
miss_repeated d n bs left h l w =
    let q = four_split bs h l in
    miss_around (2 ∷ four (number_in bs)) (times (number_in bs)) suc (λ p. 5 + p) [] (λ r. ap (λ (v : List ℕ). 2 ∷ (four (number_in bs) ++ v)) (sym (append-nil (row_bytes r))))
    (λ r f. and_from (field (number_in bs)) (fields_in r) q.0 f) (λ r i e p s. in_times s) (λ us. omega arith)
    (λ r ws xs f e. let p = times_is r ws (four (number_in bs) ++ xs) f e in (p.1, ws, p.2, behind p.0 (row_bytes p.1 ++ ws) xs p.3))
    d n (suc n) (drop 4 bs) (2 ∷ bs) left refl (ap (λ (v : List ℕ). 2 ∷ v) q.1) w
  where
    behind : (m : ℕ) (us vs : List ℕ) → four m ++ us ≡ four (number_in bs) ++ vs → us ≡ vs
    behind m us vs e = cc

miss_turned : (d n : ℕ) (bs : List ℕ) (left : ℕ) → Miss d n bs left → Miss (suc d) (suc n) (3 ∷ bs) left
unfolding fields_in row_bytes
miss_turned d n bs left w =
    miss_around (3 ∷ []) turned suc suc [] (λ r. ap (λ (v : List ℕ). 3 ∷ v) (sym (append-nil (row_bytes r)))) (λ r f. f) (λ r i e p s. in_turned s) (λ us. refl)
    (λ r ws xs f e. let p = turned_is r ws xs f e in (p.0, ws, p.1, p.2)) d n (suc n) bs (3 ∷ bs) left refl refl w

-- what is so of bytes that were read, where they are no row
abbrev pub Missed : ℕ → ℕ → List ℕ → Read → Type 0
Missed d n bs (got r m cs) = Unit {0}
Missed d n bs (bad left) = Miss d n bs left

around_missed : (d n : ℕ) (bs : List ℕ) (F : Row → Row) (x : Read) → ((left : ℕ) → x ≡ bad left → Miss d n bs left) → Missed d n bs (around F x)
unfolding around
around_missed d n bs F (got r m cs) h = tt
around_missed d n bs F (bad left) h = h left refl

missed_at : (d n : ℕ) (bs : List ℕ) (x : Read) (left : ℕ) → Missed d n bs x → x ≡ bad left → Miss d n bs left
missed_at d n bs x left w e = subst (Missed d n bs) e w

module _ (f : ℕ → List ℕ → Read) (d : ℕ) (ih : (n : ℕ) (bs : List ℕ) → Bytes bs → Missed d n bs (f n bs)) (so : (n : ℕ) (bs : List ℕ) → Bytes bs → RowSo d n bs (f n bs)) where
  second_missed : (n : ℕ) (bs : List ℕ) (x : Read) → RowSo d n bs x → Missed d n bs x → Missed (suc d) (suc n) (1 ∷ bs) (second f x)
  unfolding second
  second_missed n bs (got r m cs) s w =
      around_missed (suc d) (suc n) (1 ∷ bs) (then r) (f m cs) (λ left e. miss_second d n m bs cs r left s (missed_at d m cs (f m cs) left (ih m cs s.4) e))
  second_missed n bs (bad left) s w = miss_first d n bs left w

  part_missed : (k n : ℕ) (bs : List ℕ) → Bytes bs → Missed (suc d) (suc n) (k ∷ bs) (part_in f k n bs)
  unfolding part_in
  part_missed zero n bs h =
      cond_both (ltb (length bs) 4) (bad 0) (got (one (number_in bs)) n (drop 4 bs)) (Missed (suc d) (suc n) (0 ∷ bs)) (λ e. miss_one (suc d) (suc n) bs h (ltb-true (length bs) 4 e)) (λ e. tt)
  part_missed (suc zero) n bs h = second_missed n bs (f n bs) (so n bs h) (ih n bs h)
  part_missed (suc (suc zero)) n bs h =
      cond_both (ltb (length bs) 4) (bad 0) (around (times (number_in bs)) (f n (drop 4 bs))) (Missed (suc d) (suc n) (2 ∷ bs)) (λ e. miss_times (suc d) (suc n) bs h (ltb-true (length bs) 4 e))
      (λ e. around_missed (suc d) (suc n) (2 ∷ bs) (times (number_in bs)) (f n (drop 4 bs))
      (λ left q. miss_repeated d n bs left h (ltb-false (length bs) 4 e) (missed_at d n (drop 4 bs) (f n (drop 4 bs)) left (ih n (drop 4 bs) (bytes_drop 4 bs h)) q)))
  part_missed (suc (suc (suc zero))) n bs h =
      around_missed (suc d) (suc n) (3 ∷ bs) turned (f n bs) (λ left q. miss_turned d n bs left (missed_at d n bs (f n bs) left (ih n bs h) q))
  part_missed (suc (suc (suc (suc zero)))) n bs h =
      cond_both (ltb (length bs) 8) (bad 0) (got (run (number_in bs) (number_in (drop 4 bs))) n (drop 8 bs)) (Missed (suc d) (suc n) (4 ∷ bs)) (λ e. miss_run (suc d) (suc n) bs h (ltb-true (length bs) 8 e)) (λ e. tt)
  part_missed (suc (suc (suc (suc (suc k))))) n bs h = miss_kind (suc d) (suc n) (suc (suc (suc (suc (suc k))))) bs (omega arith)

pub row_missed : (d n : ℕ) (bs : List ℕ) → Bytes bs → Missed d n bs (row_in d n bs)
unfolding row_in fields_in
row_missed zero n bs h = miss_limit zero n bs (inr refl)
row_missed (suc d) zero bs h = miss_limit (suc d) zero bs (inl refl)
row_missed (suc d) (suc n) [] h =
    record { us = []; vs = []; split = refl; long = refl; row = one 0; fields = refl; zs = row_bytes (one 0); starts = refl; end = λ s ws f e. row_some s ws e }
row_missed (suc d) (suc n) (k ∷ bs) h = part_missed (row_in d) d (row_missed d) (row_so d) k n bs (λ i. h (suc i))
