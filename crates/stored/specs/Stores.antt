-- What storing a row leaves.
use Rattle.std.specs.Prelude.{◌≡◌, ℕ, ◌+◌, ◌*◌, List, ◌++◌, drop}
use Rattle.weave.specs.Rows.{Row, long, size}
use Rattle.rows.specs.Words.{row_words}
use Rattle.stored.specs.declared.Extent.{Extent}

-- the row's words stand in front, and behind them what stood there
pub record Stores (r : Row) (x : Extent) (before after : List ℕ) : Type 0 where
  pub parts : x.parts ≡ size r
  pub numbers : x.numbers ≡ long r
  pub words : after ≡ row_words r ++ drop (2 * size r) before

-- how large and how long a row is that is made of others
abbrev pub joined : Extent → Extent → Extent
joined x y = record { parts = 1 + x.parts + y.parts; numbers = x.numbers + y.numbers }

abbrev pub repeated : ℕ → Extent → Extent
repeated n x = record { parts = 1 + x.parts; numbers = n * x.numbers }

abbrev pub mirrored : Extent → Extent
mirrored x = record { parts = 1 + x.parts; numbers = x.numbers }
