-- Places round the end of a row.
use Rattle.std.proofs.Common.{◌≡◌, ℕ, ◌%◌, ◌<◌, true, get_or, mod-lt}
use Rattle.weave.specs.Rows.{Row, written, long, below, some_each}
use Rattle.weave.specs.Promise.{number_at}
use Rattle.weave.proofs.Rows.{get_or_written, long_some, written_below}

module _ (r : Row) (i : ℕ) (some : some_each r ≡ true) where
  pub round_place : i % long r < long r
  round_place = mod-lt i (long_some r some)

  -- the number there, written out
  pub round_written : get_or (written r) (i % long r) 0 ≡ number_at r (i % long r)
  round_written = get_or_written r (i % long r) round_place

  pub round_below : (m : ℕ) → below m r ≡ true → get_or (written r) (i % long r) 0 < m
  round_below m b = written_below m r (i % long r) b round_place
