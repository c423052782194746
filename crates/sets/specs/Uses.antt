-- Which shafts and treadles a draft uses.
use Rattle.std.specs.Prelude.{◌≡◌, ℕ}
use Rattle.weave.specs.Rows.{written}
use Rattle.weave.specs.Cloth.{Draft, among}
use Rattle.lent.specs.Bits.{bit}
use Rattle.sets.specs.declared.in_use.InUse.{InUse}

-- the sets of just those shafts that ends are on, and of just those treadles that picks have
pub record Uses (d : Draft) (u : InUse) : Type 0 where
  pub shafts : (n : ℕ) → bit u.shafts n ≡ among n (written d.threading)
  pub treadles : (n : ℕ) → bit u.treadles n ≡ among n (written d.treadling)
