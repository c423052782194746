-- How a row is read, a part at a time.
use Rattle.std.proofs.Common.{◌≡◌, ℕ, zero, suc, ◌-◌, ◌<◌, List, ◌∷◌, refl, sub-one, arith}
use Rattle.weave.specs.Rows.{Row}
use Rattle.encoding.specs.Rows.{Read, got, bad, skip_of, around, part_in, row_in}

pub row_step : (d n k : ℕ) (bs rest : List ℕ) → 0 < d → 0 < n → bs ≡ k ∷ rest → row_in d n bs ≡ part_in (row_in (d - 1)) k (n - 1) rest
unfolding row_in
row_step zero n k bs rest hd hn e = absurd (omega arith)
row_step (suc d) zero k bs rest hd hn e = absurd (omega arith)
row_step (suc d) (suc n) k bs rest hd hn e = rw (e, sub-one, sub-one) refl

pub around_skip : (f : Row → Row) (x : Read) → skip_of x ≡ skip_of (around f x)
unfolding around
around_skip f (got r n bs) = refl
around_skip f (bad p) = refl
