-- What is true of all cloth, beyond what a desk is promised to do: statements. Assumes nothing.
use Rattle.std.specs.Prelude.{◌≡◌, ℕ, ◌<◌, Bool, true, false, not, ◌⊎◌, List, length, slice_index_or}
use Rattle.weave.specs.Rows.{times, written, long}
use Rattle.weave.specs.Cloth.{Draft, warp_over, longest_of_ends, longest_of_picks, Some, LieOver, HangsTogether, by_shafts, among, shafts_needed, treadles_needed}
use Rattle.weave.specs.Calls.{Limits, Desk, tied_so, longest}
use Rattle.weave.specs.Promise.{GoodLimits, Reached, SameCloth}

-- used shafts and treadles are enough: if any threads lie over all others, then all those of some shafts and treadles do, each of which has a thread
abbrev pub ByUsedShafts : Type 0
ByUsedShafts =
    (l : Limits) (d : Desk) (s : Some) → GoodLimits l → Reached l d → LieOver d.now s →
    (ss : List Bool) × (ts : List Bool) × (length ss ≡ l.shafts) × (length ts ≡ l.treadles) × LieOver d.now (by_shafts d.now ss ts)
    × ((i : ℕ) → slice_index_or ss i false ≡ true → among i (written d.now.threading) ≡ true) × ((i : ℕ) → slice_index_or ts i false ≡ true → among i (written d.now.treadling) ≡ true)

-- the longest float of one draft and of another, each with the length up to which it is counted: one that ends is as long in both; one that never ends is as long as the draft
abbrev pub AsLongFloat : ℕ → ℕ → ℕ → ℕ → Type 0
AsLongFloat float length other other_length = (float < length → other ≡ float) × (float ≡ length → other ≡ other_length)

-- two drafts of which the same is told, but that a float which never ends is counted up to the length of each
pub record ToldAlike (d e : Draft) : Type 0 where
  pub ends_alike : (face : Bool) → AsLongFloat (longest_of_ends d face) (long d.treadling) (longest_of_ends e face) (long e.treadling)
  pub picks_alike : (face : Bool) → AsLongFloat (longest_of_picks d face) (long d.threading) (longest_of_picks e face) (long e.threading)
  pub shafts_alike : shafts_needed e ≡ shafts_needed d
  pub treadles_alike : treadles_needed e ≡ treadles_needed d
  pub hangs_too : HangsTogether d → HangsTogether e
  pub hung_too : HangsTogether e → HangsTogether d

-- only the cloth counts: of two drafts that weave the same the same is told, however they are threaded, tied and treadled
abbrev pub OnlyCloth : Type 0
OnlyCloth = (d e : Draft) → 0 < long d.threading → 0 < long d.treadling → SameCloth d e → ToldAlike d e

-- a draft written several times over: so often its ends, so often its picks
abbrev pub repeated : ℕ → ℕ → Draft → Draft
repeated m n d = record { threading = times m d.threading; tied = d.tied; treadling = times n d.treadling }

-- written several times over, a draft has the same floats but for those that never end, needs as few shafts and treadles, and hangs together just if it did: no float is cut at the end of the
-- draft, and nothing is counted twice
abbrev pub WrittenOver : Type 0
WrittenOver = (d : Draft) (m n : ℕ) → 0 < m → 0 < n → 0 < long d.threading → 0 < long d.treadling → ToldAlike d (repeated m n d)

-- a draft with one tie turned
abbrev pub retied : ℕ → ℕ → Draft → Draft
retied t s d = record { threading = d.threading; tied = tied_so d.tied t s; treadling = d.treadling }

-- a tie on a treadle that is never used, or of a shaft that no end is on, changes nothing that is told: no shaft is counted that no end is on, and ends don't differ by treadles that are never used
abbrev pub UnusedTie : Type 0
UnusedTie =
    (d : Draft) (t s : ℕ) → 0 < long d.threading → 0 < long d.treadling → (among t (written d.treadling) ≡ false) ⊎ (among s (written d.threading) ≡ false) →
    ((r c : ℕ) → warp_over (retied t s d) r c ≡ warp_over d r c)
    × ((kind : ℕ) → longest (retied t s d) kind ≡ longest d kind)
    × (shafts_needed (retied t s d) ≡ shafts_needed d) × (treadles_needed (retied t s d) ≡ treadles_needed d)
    × (HangsTogether d → HangsTogether (retied t s d)) × (HangsTogether (retied t s d) → HangsTogether d)

-- a draft with ends for picks and picks for ends, by some tie-up; it weaves the cloth turned by a quarter if what was over is over
abbrev pub quarter_turned : List (List Bool) → Draft → Draft
quarter_turned ts d = record { threading = d.treadling; tied = ts; treadling = d.threading }

-- the tie-up turns the cloth
abbrev pub Turns : List (List Bool) → Draft → Type 0
Turns ts d = (r c : ℕ) → warp_over (quarter_turned ts d) r c ≡ not (warp_over d c r)

-- turned by a quarter, as each cloth can be, ends are picks: floats of ends are those of picks, on the face and on the back, as many treadles are needed as shafts were, and it hangs together just if
-- it did; so what is said of ends is said of picks
abbrev pub QuarterTurned : Type 0
QuarterTurned =
    (d : Draft) → 0 < long d.threading → 0 < long d.treadling →
    ((ts : List (List Bool)) × Turns ts d)
    × ((ts : List (List Bool)) (face : Bool) → Turns ts d →
    (longest_of_ends (quarter_turned ts d) face ≡ longest_of_picks d face) × (longest_of_picks (quarter_turned ts d) face ≡ longest_of_ends d face)
    × (shafts_needed (quarter_turned ts d) ≡ treadles_needed d) × (treadles_needed (quarter_turned ts d) ≡ shafts_needed d)
    × (HangsTogether d → HangsTogether (quarter_turned ts d)) × (HangsTogether (quarter_turned ts d) → HangsTogether d))
