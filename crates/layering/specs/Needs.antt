-- Which shafts and treadles must lie over all others with which, by way of others too. Shafts and treadles stand in one line: place i below 64 is shaft i, and place 64 + t is treadle t.
-- Assumes nothing: these are definitions.
use Rattle.std.specs.Prelude.{◌≡◌, ℕ, ◌≤◌, Bool, true, ◌&&◌, ◌||◌, ◌==◌, nat_eq}
use Rattle.weave.specs.Rows.{below}
use Rattle.weave.specs.Cloth.{Draft}
use Rattle.weave.proofs.Counts.{count}
use Rattle.weave.proofs.Reach.{rounds, reached}
use Rattle.weave.proofs.Layers.{needs, is_used}

-- what something that is used needs at once, and itself
abbrev pub at_once : Draft → ℕ → ℕ → Bool
at_once d i j = is_used d 64 i && (j == i || needs d 64 i j)

-- what something needs in so many rounds: in none itself, and in each round all that something of it needs at once
abbrev pub needed_in : Draft → ℕ → ℕ → ℕ → Bool
needed_in d k x = rounds (needs d 64) 128 k (λ y. nat_eq y x)

-- what it needs: itself, and all that must be among them with it
abbrev pub needed : Draft → ℕ → ℕ → Bool
needed d x = reached (needs d 64) 128 x

-- how many shafts and treadles something needs, and how many are used
abbrev pub how_many : Draft → ℕ → ℕ
how_many d x = count (needed d x) 128

abbrev pub how_many_used : Draft → ℕ
how_many_used d = count (is_used d 64) 128

-- what is needed is found in as many rounds as there are shafts and treadles; more find nothing more
unfoldable pub EnoughRounds : Type 0
EnoughRounds =
    (d : Draft) (x k j : ℕ) → below 64 d.threading ≡ true → below 64 d.treadling ≡ true → is_used d 64 x ≡ true → how_many_used d ≤ k → needed_in d k x j ≡ needed d x j
