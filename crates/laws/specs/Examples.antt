-- Four drafts that weavers know, with what is told of them: statements. Assumes nothing.
use Rattle.std.specs.Prelude.{◌≡◌, ℕ, Bool, true, false, List, [], ◌∷◌}
use Rattle.weave.specs.Rows.{run}
use Rattle.weave.specs.Cloth.{Draft, longest_of_ends, longest_of_picks, shafts_needed, treadles_needed, HangsTogether, LieOver, by_shafts}

-- plain weave: threaded and treadled 0 to 1, each treadle lifts its own shaft
abbrev pub plain : Draft
plain = record { threading = run 0 1; tied = (true ∷ false ∷ []) ∷ (false ∷ true ∷ []) ∷ []; treadling = run 0 1 }

-- threaded and treadled straight, 0 to 3, by the shafts that each treadle lifts
abbrev pub straight : List (List Bool) → Draft
straight ties = record { threading = run 0 3; tied = ties; treadling = run 0 3 }

-- two over, two under: 01, 12, 23, 30
abbrev pub twill : Draft
twill =
    straight
    ((true ∷ true ∷ false ∷ false ∷ []) ∷ (false ∷ true ∷ true ∷ false ∷ []) ∷ (false ∷ false ∷ true ∷ true ∷ []) ∷ (true ∷ false ∷ false ∷ true ∷ []) ∷ [])

-- two plain cloths, one over the other: 0, 012, 2, 023
abbrev pub double : Draft
double =
    straight
    ((true ∷ false ∷ false ∷ false ∷ []) ∷ (true ∷ true ∷ true ∷ false ∷ []) ∷ (false ∷ false ∷ true ∷ false ∷ []) ∷ (true ∷ false ∷ true ∷ true ∷ []) ∷ [])

-- the same with one tie less, 03 for the last, which joins them
abbrev pub joined : Draft
joined =
    straight
    ((true ∷ false ∷ false ∷ false ∷ []) ∷ (true ∷ true ∷ true ∷ false ∷ []) ∷ (false ∷ false ∷ true ∷ false ∷ []) ∷ (true ∷ false ∷ false ∷ true ∷ []) ∷ [])

-- the longest floats of ends on the face and on the back, of picks on the face and on the back; the fewest shafts and treadles
pub record Told (d : Draft) (ends_face ends_back picks_face picks_back shafts treadles : ℕ) : Type 0 where
  pub of_ends_face : longest_of_ends d true ≡ ends_face
  pub of_ends_back : longest_of_ends d false ≡ ends_back
  pub of_picks_face : longest_of_picks d true ≡ picks_face
  pub of_picks_back : longest_of_picks d false ≡ picks_back
  pub fewest_shafts : shafts_needed d ≡ shafts
  pub fewest_treadles : treadles_needed d ≡ treadles

-- over one, under one; it hangs together
abbrev pub PlainWeave : Type 0
PlainWeave = Told plain 1 1 1 1 2 2 × HangsTogether plain

-- over two, under two; it hangs together
abbrev pub EvenTwill : Type 0
EvenTwill = Told twill 2 2 2 2 4 4 × HangsTogether twill

-- the upper cloth is on shafts 0 and 2, and has the picks of treadles 0 and 2
abbrev pub DoubleCloth : Type 0
DoubleCloth = Told double 3 3 3 3 4 4 × LieOver double (by_shafts double (true ∷ false ∷ true ∷ false ∷ []) (true ∷ false ∷ true ∷ false ∷ []))

-- one tie less, and it hangs together
abbrev pub JoinedCloth : Type 0
JoinedCloth = Told joined 3 3 3 3 4 4 × HangsTogether joined
