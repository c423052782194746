-- Words of tests that are rows.
use Rattle.std.proofs.Common.{◌≡◌, ℕ, suc, ◌+◌, ◌-◌, ◌*◌, ◌<◌, true, List, [], ◌∷◌, refl, ap₂, arith}
use Rattle.std.proofs.lemmas.Bool.{lt-ltb, le-leb}
use Rattle.weave.specs.Rows.{Row, one, run, long, size, deep, below, some_each}
use Rattle.weave.specs.Calls.{good_row}
use Rattle.weave.specs.Promise.{fields_in}
use Rattle.rows.specs.Words.{row_words, IsRow, row_of}
use Rattle.rows.proofs.Told.{row_told, is_row}
use Rattle.cases_cloth.specs.Written.{Written}
use Rattle.rows.proofs.Words.{good_begins}

-- they are the row that they tell, which is good
pub is_row_in : (m : ℕ) (r : Row) (ws : List ℕ) → Written m r ws → IsRow ws
is_row_in m r ws w = is_row r ws (good_begins m r ws [] w.good w.fields w.is)

pub good_in : (m : ℕ) (r : Row) (ws : List ℕ) → Written m r ws → good_row m (row_of 32 ws) ≡ true
good_in m r ws w = rw (row_told r ws (good_begins m r ws [] w.good w.fields w.is)) w.good

-- 0 to some number, and 0 alone
pub to_written : (m n : ℕ) → n < m → n < 65536 → Written m (run 0 n) ((4 + 4294967296 * suc n) ∷ ((4294967296 * n) ∷ []))
unfolding row_words below some_each size deep long fields_in
to_written m n h k =
    let e : suc (n - 0 + (0 - n)) ≡ suc n = omega arith in
    record {
      good = rw (lt-ltb 0 m (omega arith), lt-ltb n m h, e) (le-leb (suc n) 16777216 (omega arith));
      fields = lt-ltb n 4294967296 (omega arith);
      is = ap₂ (λ (a b : ℕ). a ∷ (b ∷ [])) (omega arith) (omega arith);
    }

pub first_written : (m : ℕ) → 0 < m → Written m (one 0) (4294967296 ∷ (0 ∷ []))
unfolding row_words below some_each size deep long fields_in
first_written m h = record { good = rw (lt-ltb 0 m h); fields = refl; is = refl }
