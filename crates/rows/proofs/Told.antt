-- Words tell their row.
use Rattle.std.proofs.Common.{◌≡◌, ℕ, zero, suc, ◌*◌, ◌/◌, ◌%◌, ◌<◌, ◌≤◌, List, ◌++◌, get_or, drop, refl, sym, ap, ◌∙◌, ap₂, arith}
use Rattle.std.proofs.lemmas.List.{drop_at}
use Rattle.weave.specs.Rows.{Row, one, then, times, turned, run, long, size, deep}
use Rattle.weave.proofs.Rows.{long_some}
use Rattle.rows.specs.Words.{row_words, Small, Begins, IsRow, by_kind, row_of}
use Rattle.rows.proofs.Parts.{deep_some, deep_then, deep_times, deep_turned}
use Rattle.rows.proofs.Words.{kind, left, first, second, Opened, opened, words_long, inner_then, inner_times, inner_turned, is_then, is_times, is_turned}

-- the fields, as they are read
fields_are : (r : Row) (ws : List ℕ) → Begins r ws → (get_or ws 0 0 % 8 ≡ kind r) × (get_or ws 0 0 % 4294967296 / 8 ≡ left r) × (get_or ws 1 0 % 4294967296 ≡ first r) × (get_or ws 1 0 / 4294967296 ≡ second r)
fields_are r ws b = let o = opened r ws b in (omega arith, omega arith, omega arith, omega arith)

-- one step down
step : (d : ℕ) (r : Row) (ws : List ℕ) → Begins r ws →
    row_of (suc d) ws ≡ by_kind (kind r) (one (first r)) (then (row_of d (drop 2 ws)) (row_of d (drop (2 * left r) (drop 2 ws)))) (times (first r) (row_of d (drop 2 ws))) (turned (row_of d (drop 2 ws))) (run (first r) (second r))
unfolding row_of
step d r ws b = let f = fields_are r ws b in simp (f.0, f.1, f.2, f.3)

pub told : (d : ℕ) (r : Row) (ws : List ℕ) → Begins r ws → deep r ≤ d → row_of d ws ≡ r
told zero r ws b h = absurd (omega (arith, deep_some r))
told (suc d) (one n) ws b h = step d (one n) ws b
told (suc d) (then r s) ws b h =
    step d (then r s) ws b
    ∙ ap₂ then (told d r (drop 2 ws) (inner_then r s ws b).0 (omega (arith, deep_then r s)))
    (told d s (drop (2 * size r) (drop 2 ws)) (inner_then r s ws b).1 (omega (arith, deep_then r s)))
told (suc d) (times n r) ws b h = step d (times n r) ws b ∙ ap (times n) (told d r (drop 2 ws) (inner_times n r ws b) (omega (arith, deep_times n r)))
told (suc d) (turned r) ws b h = step d (turned r) ws b ∙ ap turned (told d r (drop 2 ws) (inner_turned r ws b) (omega (arith, deep_turned r)))
told (suc d) (run a c) ws b h = step d (run a c) ws b

pub row_told : (r : Row) (ws : List ℕ) → Begins r ws → row_of 32 ws ≡ r
row_told r ws b = told 32 r ws b b.small.shallow

pub read_back : (r : Row) (rest : List ℕ) → Small r → row_of 32 (row_words r ++ rest) ≡ r
read_back r rest s = row_told r (row_words r ++ rest) (record { small = s; rest = rest; is = refl })

-- words that begin with a row are words of the row that they tell
pub is_row : (r : Row) (ws : List ℕ) → Begins r ws → IsRow ws
is_row r ws b =
    let e : row_of 32 ws ≡ r = row_told r ws b in
    let d : drop (2 * size r) ws ≡ b.rest = rw b.is (drop_at _ _ _ (words_long r)) in
    record { small = rw e b.small; is = rw (e, d) b.is }

pub begins_told : (ws : List ℕ) → IsRow ws → Begins (row_of 32 ws) ws
begins_told ws i = record { small = i.small; rest = drop (2 * size (row_of 32 ws)) ws; is = i.is }

-- a row at its outside, by its kind
module _ (ws : List ℕ) (i : IsRow ws) where
  pub then_told : kind (row_of 32 ws) ≡ 1 →
      (row_of 32 ws ≡ then (row_of 32 (drop 2 ws)) (row_of 32 (drop (2 * left (row_of 32 ws)) (drop 2 ws)))) × IsRow (drop 2 ws) × IsRow (drop (2 * left (row_of 32 ws)) (drop 2 ws))
  then_told h =
      let t = is_then (row_of 32 ws) ws (begins_told ws i) h in
      (t.2 ∙ ap₂ then (sym (row_told t.0 _ t.3)) (sym (row_told t.1 _ t.4)), is_row t.0 _ t.3, is_row t.1 _ t.4)

  pub times_told : kind (row_of 32 ws) ≡ 2 → (row_of 32 ws ≡ times (first (row_of 32 ws)) (row_of 32 (drop 2 ws))) × IsRow (drop 2 ws)
  times_told h =
      let t = is_times (row_of 32 ws) ws (begins_told ws i) h in
      (t.1 ∙ ap (times (first (row_of 32 ws))) (sym (row_told t.0 _ t.2)), is_row t.0 _ t.2)

  pub turned_told : kind (row_of 32 ws) ≡ 3 → (row_of 32 ws ≡ turned (row_of 32 (drop 2 ws))) × IsRow (drop 2 ws)
  turned_told h =
      let t = is_turned (row_of 32 ws) ws (begins_told ws i) h in
      (t.1 ∙ ap turned (sym (row_told t.0 _ t.2)), is_row t.0 _ t.2)

  pub opened_told : Opened (row_of 32 ws) ws
  opened_told = opened (row_of 32 ws) ws (begins_told ws i)

  pub some_told : 0 < long (row_of 32 ws)
  some_told = long_some (row_of 32 ws) i.small.some
