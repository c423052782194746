-- The draft that lent words show, and its shafts and treadles.
use Rattle.std.proofs.Common.{◌≡◌, ℕ, ◌%◌, ◌<◌, false, [], ap, ◌∙◌, sym, length, get_or, map}
use Rattle.std.proofs.lemmas.List.{get_or-map}
use Rattle.rows.proofs.Told.{row_told, begins_told}
use Rattle.rows.specs.Rows.{row_in}
use Rattle.lent.specs.Bits.{bits_of}
use Rattle.lent.proofs.Bits.{bit_at}
use Rattle.weave.specs.Rows.{Row, written, long}
use Rattle.weave.specs.Cloth.{Draft, shaft_of, treadle_of}
use Rattle.weave.proofs.Rows.{long_some}
use Rattle.weave.proofs.Cloth.{shaft_below, treadle_below}
use Rattle.weave.proofs.Sound.{good_below, good_some}
use Rattle.lent.specs.Shows.{Shows, draft_in}
use Rattle.lent.specs.declared.Lent.{Lent}

module _ (d : Draft) (l : Lent) (shows : Shows d l) where
  pub shown_ends : 0 < long d.threading
  shown_ends = long_some d.threading (good_some 64 d.threading shows.threading_good)

  pub shown_picks : 0 < long d.treadling
  shown_picks = long_some d.treadling (good_some (length l.ties.now) d.treadling shows.treadling_good)

  pub shown_shaft : (c : ℕ) → shaft_of d c < 64
  shown_shaft c = shaft_below 64 d c (good_below 64 d.threading shows.threading_good) shown_ends

  pub shown_treadle : (r : ℕ) → treadle_of d r < length l.ties.now
  shown_treadle r = treadle_below (length l.ties.now) d r (good_below (length l.ties.now) d.treadling shows.treadling_good) shown_picks

-- the words of a draft show it
pub shown : (l : Lent) → Shows (draft_in l) l
shown l = record {
  threading = begins_told l.threading.words.now l.threading.begins;
  threading_good = l.good.shafts;
  treadling = begins_told l.treadling.words.now l.treadling.begins;
  treadling_good = l.good.treadles;
  few = l.good.few;
  tied = λ t s h k. rw (get_or-map (bits_of 64) l.ties.now t 0 [] h) (sym (bit_at 64 (get_or l.ties.now t 0) s k));
}

-- and the rows of each draft that they show are theirs
module _ (d : Draft) (l : Lent) (shows : Shows d l) where
  pub shown_threading : row_in l.threading ≡ d.threading
  shown_threading = row_told d.threading l.threading.words.now shows.threading

  pub shown_treadling : row_in l.treadling ≡ d.treadling
  shown_treadling = row_told d.treadling l.treadling.words.now shows.treadling

  -- a number of a row in words is a shaft, or a treadle
  pub told_shaft : (c : ℕ) → get_or (written (row_in l.threading)) (c % long (row_in l.threading)) 0 ≡ shaft_of d c
  told_shaft c = ap (λ (r : Row). get_or (written r) (c % long r) 0) shown_threading

  pub told_treadle : (r : ℕ) → get_or (written (row_in l.treadling)) (r % long (row_in l.treadling)) 0 ≡ treadle_of d r
  told_treadle i = ap (λ (r : Row). get_or (written r) (i % long r) 0) shown_treadling
