-- Which draft lent words show.
use Rattle.std.specs.Prelude.{◌≡◌, ℕ, ◌<◌, ◌≤◌, true, map, length, slice_index}
use Rattle.weave.specs.Cloth.{Draft, lifts}
use Rattle.weave.specs.Calls.{good_row}
use Rattle.rows.specs.Words.{Begins}
use Rattle.rows.specs.Rows.{row_in}
use Rattle.lent.specs.Bits.{bit, bits_of}
use Rattle.lent.specs.declared.Lent.{Lent}

-- the words begin with its rows, which are good ones of up to 64 shafts and of as many treadles as there are words of ties
pub record Shows (d : Draft) (l : Lent) : Type 0 where
  pub threading : Begins d.threading l.threading.words.now
  pub threading_good : good_row 64 d.threading ≡ true
  pub treadling : Begins d.treadling l.treadling.words.now
  pub treadling_good : good_row (length l.ties.now) d.treadling ≡ true
  pub few : length l.ties.now ≤ 64
  pub tied : (t s : ℕ) → t < length l.ties.now → s < 64 → bit (slice_index l.ties.now t) s ≡ lifts d.tied t s

-- the draft that they are, of 64 shafts
abbrev pub draft_in : Lent → Draft
draft_in l = record { threading = row_in l.threading; tied = map (bits_of 64) l.ties.now; treadling = row_in l.treadling }
