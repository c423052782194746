-- Which number names which kind of floats.
use Rattle.std.specs.Prelude.{◌≡◌, ℕ, ◌<◌, ◌≤◌, Ok, Err, Result}
use Rattle.floats.specs.declared.Kind.{Kind}
use Rattle.floats.specs.Kinds.{number_of}

-- the kind that has the number n; or none, since the numbers end before 4
abbrev pub Names : {E : Type 0} → ℕ → Result Kind E → Type 0
Names n (Ok k) = (n < 4) × (number_of k ≡ n)
Names n (Err e) = 4 ≤ n
