-- Shafts and treadles whose threads lie over all others, and which are named where there is a choice: as sets, bits of two numbers. Assumes nothing: these are definitions.
use Rattle.std.specs.Prelude.{◌≡◌, ℕ, ◌+◌, ◌^◌, ◌<◌, ◌≤◌, true, false, ◌&&◌, nat_lt}
use Rattle.weave.specs.Rows.{written, below}
use Rattle.weave.specs.Cloth.{Draft, LieOver, by_shafts, among, lifts}
use Rattle.weave.proofs.Layers.{is_used}
use Rattle.lent.specs.Bits.{bit, bits_of}
use Rattle.layering.specs.Needs.{needed, how_many}

-- their threads lie over all others; they are used ones, and none is beyond any limit that the rows keep to
pub record OverAll (d : Draft) (ss ts : ℕ) : Type 0 where
  pub lie : (m n : ℕ) → below m d.threading ≡ true → below n d.treadling ≡ true → LieOver d (by_shafts d (bits_of m ss) (bits_of n ts))
  pub shafts_used : (s : ℕ) → bit ss s ≡ true → among s (written d.threading) ≡ true
  pub treadles_used : (t : ℕ) → bit ts t ≡ true → among t (written d.treadling) ≡ true
  pub shafts_below : (m : ℕ) → below m d.threading ≡ true → ss < 2 ^ m
  pub treadles_below : (n : ℕ) → below n d.treadling ≡ true → ts < 2 ^ n

-- some used treadle leaves a shaft down
abbrev pub LeftDown : Draft → ℕ → Type 0
LeftDown d s = (t : ℕ) × (among t (written d.treadling) ≡ true) × (lifts d.tied t s ≡ false)

-- what something needs lacks something that is used
abbrev pub Lacks : Draft → ℕ → Type 0
Lacks d x = (j : ℕ) × (is_used d 64 j ≡ true) × (needed d x j ≡ false)

-- the topmost: of the sets that used shafts and treadles need, and that lack something, one with the fewest shafts and treadles; of several the one that the first needs, shafts before treadles
pub record Topmost (d : Draft) (ss ts : ℕ) : Type 0 where
  pub of : ℕ
  pub used : is_used d 64 of ≡ true
  pub shafts : (s : ℕ) → bit ss s ≡ (needed d of s && nat_lt s 64)
  pub treadles : (t : ℕ) → bit ts t ≡ needed d of (64 + t)
  pub lacks : Lacks d of
  pub fewest : (y : ℕ) → is_used d 64 y ≡ true → Lacks d y → how_many d of ≤ how_many d y
  pub first : (y : ℕ) → y < of → is_used d 64 y ≡ true → Lacks d y → how_many d of < how_many d y

-- there is no more than one
unfoldable pub OneTopmost : Type 0
OneTopmost = (d : Draft) (ss ts us vs : ℕ) → Topmost d ss ts → Topmost d us vs → (ss ≡ us) × (ts ≡ vs)
