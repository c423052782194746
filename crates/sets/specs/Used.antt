-- Which shafts and treadles lent words use.
use Rattle.std.specs.Prelude.{◌≡◌, ℕ}
use Rattle.weave.specs.Rows.{written}
use Rattle.weave.specs.Cloth.{among}
use Rattle.rows.specs.Rows.{row_in}
use Rattle.lent.specs.Bits.{bit}
use Rattle.lent.specs.declared.Lent.{Lent}

-- the sets of just those shafts that ends are on, and of just those treadles that picks have
pub record Used (l : Lent) (shafts treadles : ℕ) : Type 0 where
  pub of_ends : (n : ℕ) → bit shafts n ≡ among n (written (row_in l.threading))
  pub of_picks : (n : ℕ) → bit treadles n ≡ among n (written (row_in l.treadling))
