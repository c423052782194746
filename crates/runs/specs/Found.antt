-- What is found about a row and a set of numbers, and the same of a row by the rows in it.
use Rattle.std.specs.Prelude.{ℕ, ◌+◌, ◌*◌, ◌<◌, ◌≤◌, max, Bool, List, length, ◌==◌}
use Rattle.weave.specs.Rows.{pick}
use Rattle.weave.proofs.Runs.{front, back, longest, all, longest_round, GoesRound}
use Rattle.runs.specs.declared.Runs.{Runs}
use Rattle.runs.specs.declared.Runs.TheVariants.{Whole, Broken}

abbrev pub pieces : ℕ → ℕ → ℕ → Runs
pieces f b l = Broken (record { front = f; back = b; longest = l })

abbrev pub runs_of : (ℕ → Bool) → List ℕ → Runs
runs_of f xs = pick (all f xs) (Whole (length xs)) (pieces (front f xs) (back f xs) (longest f xs))

-- how long the row goes on from its beginning, and to its end
abbrev pub front_in : Runs → ℕ
front_in (Whole n) = n
front_in (Broken x) = x.front

abbrev pub back_in : Runs → ℕ
back_in (Whole n) = n
back_in (Broken x) = x.back

-- what a row of at most 16,777,216 numbers has at its ends
pub record Short (x : Runs) : Type 0 where
  pub front : front_in x ≤ 16777216
  pub back : back_in x ≤ 16777216

-- of one number
abbrev pub of_one : Bool → Runs
of_one b = pick b (Whole 1) (pieces 0 0 0)

-- of two rows, one after the other
abbrev pub of_both : Runs → Runs → Runs
of_both (Whole m) (Whole n) = Whole (m + n)
of_both (Whole m) (Broken y) = pieces (m + y.front) y.back (max y.longest (m + y.front))
of_both (Broken x) (Whole n) = pieces x.front (x.back + n) (max x.longest (x.back + n))
of_both (Broken x) (Broken y) = pieces x.front y.back (max (max x.longest y.longest) (x.back + y.front))

-- of a row so many times
abbrev pub of_times : ℕ → Runs → Runs
of_times n (Whole m) = Whole (n * m)
of_times n (Broken x) = pieces x.front x.back (pick (n == 1) x.longest (max x.longest (x.back + x.front)))

-- of a row from its end
abbrev pub of_turned : Runs → Runs
of_turned (Whole n) = Whole n
of_turned (Broken x) = pieces x.back x.front x.longest

-- the longest round the end is no longer than the list; it is somewhere; and none is longer
abbrev pub RoundTold : Type 0
RoundTold =
    (f : ℕ → Bool) (xs : List ℕ) → 0 < length xs
    → (longest_round f xs ≤ length xs)
    × ((i : ℕ) × (i < length xs) × GoesRound f xs i (longest_round f xs))
    × ((i k : ℕ) → i < length xs → k ≤ length xs → GoesRound f xs i k → k ≤ longest_round f xs)
