-- Floats by their kind: of which threads, across which, and where they go on.
use Rattle.std.specs.Prelude.{◌≡◌, ℕ, Bool, true, false}
use Rattle.weave.specs.Rows.{Row, long}
use Rattle.weave.specs.Cloth.{Draft, shaft_of, treadle_of, over_picks, along_ends}
use Rattle.weave.proofs.Floats.{shaft_over, treadle_over}
use Rattle.floats.specs.declared.Kind.{Kind}
use Rattle.floats.specs.declared.Kind.TheVariants.{EndsOnFace, EndsOnBack, PicksOnFace, PicksOnBack}

-- the number of a kind
abbrev pub number_of : Kind → ℕ
number_of EndsOnFace = 0
number_of EndsOnBack = 1
number_of PicksOnFace = 2
number_of PicksOnBack = 3

-- the row of the threads that may float, and of those that they cross
abbrev pub lines_of : Draft → Kind → Row
lines_of d EndsOnFace = d.threading
lines_of d EndsOnBack = d.threading
lines_of d PicksOnFace = d.treadling
lines_of d PicksOnBack = d.treadling

abbrev pub crossed_of : Draft → Kind → Row
crossed_of d EndsOnFace = d.treadling
crossed_of d EndsOnBack = d.treadling
crossed_of d PicksOnFace = d.threading
crossed_of d PicksOnBack = d.threading

-- whether ends of a shaft float at picks of a treadle; or picks of a treadle at ends of a shaft
abbrev pub goes_on : Draft → Kind → ℕ → ℕ → Bool
goes_on d EndsOnFace = shaft_over d true
goes_on d EndsOnBack = shaft_over d false
goes_on d PicksOnFace = treadle_over d true
goes_on d PicksOnBack = treadle_over d false

-- the shaft of an end, or the treadle of a pick; and its longest float
abbrev pub line_at : Draft → Kind → ℕ → ℕ
line_at d EndsOnFace c = shaft_of d c
line_at d EndsOnBack c = shaft_of d c
line_at d PicksOnFace r = treadle_of d r
line_at d PicksOnBack r = treadle_of d r

abbrev pub float_at : Draft → Kind → ℕ → ℕ
float_at d EndsOnFace c = over_picks d true c (long d.treadling)
float_at d EndsOnBack c = over_picks d false c (long d.treadling)
float_at d PicksOnFace r = along_ends d true r (long d.threading)
float_at d PicksOnBack r = along_ends d false r (long d.threading)

-- some end on a shaft, or some pick with a treadle, has a longest float of this length
abbrev pub HasFloat : Draft → Kind → ℕ → ℕ → Type 0
HasFloat d k line n = (c : ℕ) × (line_at d k c ≡ line) × (float_at d k c ≡ n)
