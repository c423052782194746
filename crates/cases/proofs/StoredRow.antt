-- The row that the tests store and read: 0 to 3 twice, and then 0 to 2 from its end.
use Rattle.std.proofs.Common.{◌≡◌, ℕ, List, [], ◌∷◌, ◌++◌, refl, arith}
use Rattle.weave.specs.Rows.{Row, then, times, turned, run, long, size, deep, some_each}
use Rattle.weave.specs.Promise.{fields_in}
use Rattle.encoding.specs.Rows.{row_bytes}
use Rattle.rows.specs.Words.{row_words, Small, Begins}

abbrev pub row : Row
row = then (times 2 (run 0 3)) (turned (run 0 2))

pub row_written : (bs : List ℕ) → bs ≡ 1 ∷ 2 ∷ 2 ∷ 0 ∷ 0 ∷ 0 ∷ 4 ∷ 0 ∷ 0 ∷ 0 ∷ 0 ∷ 3 ∷ 0 ∷ 0 ∷ 0 ∷ 3 ∷ 4 ∷ 0 ∷ 0 ∷ 0 ∷ 0 ∷ 2 ∷ 0 ∷ 0 ∷ 0 ∷ [] → bs ≡ row_bytes row
unfolding row_bytes
row_written bs e = e

pub row_small : Small row
unfolding some_each fields_in size deep long
row_small = record { some = refl; fields = refl; few = omega arith; shallow = omega arith; short = omega arith }

pub row_size : size row ≡ 5
unfolding size
row_size = refl

pub row_begins : (ws rest : List ℕ) → ws ≡ row_words row ++ rest → Begins row ws
row_begins ws rest e = record { small = row_small; rest = rest; is = e }
