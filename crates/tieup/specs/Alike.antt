-- Shafts that are alike, and treadles.
use Rattle.std.specs.Prelude.{◌≡◌, ℕ, ◌<◌, Bool, true, ◌&&◌}
use Rattle.weave.specs.Rows.{written}
use Rattle.weave.proofs.Counts.{count}
use Rattle.weave.proofs.Differ.{Kinds, first_of_kind}
use Rattle.weave.specs.Cloth.{Draft, among, same_on, same_by}

-- two shafts are alike if ends are on both, and every treadle of the treadling lifts both or neither
abbrev pub alike_shafts : Draft → ℕ → ℕ → Bool
alike_shafts d s n = (among s (written d.threading) && among n (written d.threading)) && same_by d.tied (written d.treadling) s n

-- two treadles are alike if picks have both, and on every shaft of the threading they do the same
abbrev pub alike_treadles : Draft → ℕ → ℕ → Bool
alike_treadles d t n = (among t (written d.treadling) && among n (written d.treadling)) && same_on d.tied (written d.threading) t n

-- numbers of a set, all below 64, that a test sorts into so many kinds
pub record Sorted (used : ℕ → Bool) (alike : ℕ → ℕ → Bool) (needed : ℕ) : Type 0 where
  pub same : ℕ → ℕ → Bool
  pub kinds : Kinds same
  pub alike_is : (x n : ℕ) → alike x n ≡ ((used x && used n) && same x n)
  pub few : (n : ℕ) → used n ≡ true → n < 64
  pub counted : needed ≡ count (first_of_kind same used) 64
