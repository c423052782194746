-- Floats of a draft by their kind: they are runs of the row that is crossed; and the bounds of what lent words show.
use Rattle.std.proofs.Common.{◌≡◌, ℕ, ◌%◌, ◌<◌, Bool, true, false, ◌&&◌, length, get_or, sym, ap, ◌∙◌, mod-eq_of_lt, arith}
use Rattle.weave.specs.Rows.{Row, written, long, below}
use Rattle.weave.specs.Cloth.{Draft, among, shaft_of, treadle_of, end_float, pick_float, over_picks, along_ends}
use Rattle.weave.specs.Calls.{longest}
use Rattle.weave.proofs.Rows.{length_written}
use Rattle.weave.proofs.Cloth.{among_at, among_where, used_below}
use Rattle.weave.proofs.Longest.{best_same, passes, end_passes, pick_passes, over_picks_best, along_ends_best}
use Rattle.weave.proofs.Runs.{longest_round, best_round, round_alike}
use Rattle.weave.proofs.Floats.{shaft_over, treadle_over, end_over, pick_over, largest, ends_by_shafts, picks_by_treadles}
use Rattle.lent.specs.Bits.{bit}
use Rattle.lent.specs.Shows.{Shows}
use Rattle.lent.specs.declared.Lent.{Lent}
use Rattle.sets.proofs.Drafts.{threading_below, treadling_tied, treadling_below}
use Rattle.floats.specs.Kinds.{number_of, lines_of, crossed_of, goes_on, line_at, float_at}
use Rattle.floats.specs.declared.Kind.{Kind}
use Rattle.floats.specs.declared.Kind.TheVariants.{EndsOnFace, EndsOnBack, PicksOnFace, PicksOnBack}

-- the longest of each kind, by shafts or treadles
pub kind_largest : (d : Draft) (k : Kind) → longest d (number_of k) ≡ largest (λ x. longest_round (goes_on d k x) (written (crossed_of d k))) (written (lines_of d k))
unfolding longest
kind_largest d EndsOnFace = ends_by_shafts d true
kind_largest d EndsOnBack = ends_by_shafts d false
kind_largest d PicksOnFace = picks_by_treadles d true
kind_largest d PicksOnBack = picks_by_treadles d false

-- of one end, and of one pick
end_round : (d : Draft) (b : Bool) (c : ℕ) → over_picks d b c (long d.treadling) ≡ longest_round (shaft_over d b (shaft_of d c)) (written d.treadling)
end_round d b c =
    over_picks_best d b c (long d.treadling)
    ∙ best_same (λ r. end_float d b r c (long d.treadling)) (λ r. passes (end_over d b c) r (long d.treadling)) (long d.treadling) (λ r. end_passes d b c (long d.treadling) r)
    ∙ best_round (shaft_over d b (shaft_of d c)) (written d.treadling) (long d.treadling) (sym (length_written d.treadling))

pick_round : (d : Draft) (b : Bool) (r : ℕ) → along_ends d b r (long d.threading) ≡ longest_round (treadle_over d b (treadle_of d r)) (written d.threading)
pick_round d b r =
    along_ends_best d b r (long d.threading)
    ∙ best_same (λ c. pick_float d b r c (long d.threading)) (λ c. passes (pick_over d b r) c (long d.threading)) (long d.threading) (λ c. pick_passes d b r (long d.threading) c)
    ∙ best_round (treadle_over d b (treadle_of d r)) (written d.threading) (long d.threading) (sym (length_written d.threading))

pub float_round : (d : Draft) (k : Kind) (c : ℕ) → float_at d k c ≡ longest_round (goes_on d k (line_at d k c)) (written (crossed_of d k))
float_round d EndsOnFace c = end_round d true c
float_round d EndsOnBack c = end_round d false c
float_round d PicksOnFace r = pick_round d true r
float_round d PicksOnBack r = pick_round d false r

-- a used shaft has an end, and a used treadle a pick
placed : (r : Row) (x : ℕ) → among x (written r) ≡ true → (c : ℕ) × (get_or (written r) (c % long r) 0 ≡ x)
placed r x e =
    let w = among_where x (written r) e in
    let h : w.0 < long r = omega (arith, w.1, length_written r) in
    (w.0, ap (λ (i : ℕ). get_or (written r) i 0) (mod-eq_of_lt h) ∙ sym w.2)

pub line_placed : (d : Draft) (k : Kind) (x : ℕ) → among x (written (lines_of d k)) ≡ true → (c : ℕ) × (line_at d k c ≡ x)
line_placed d EndsOnFace x e = placed d.threading x e
line_placed d EndsOnBack x e = placed d.threading x e
line_placed d PicksOnFace x e = placed d.treadling x e
line_placed d PicksOnBack x e = placed d.treadling x e

-- only the numbers of the row that is crossed count
pub set_round : (d : Draft) (k : Kind) (line numbers set : ℕ) → ((n : ℕ) → bit numbers n ≡ among n (written (crossed_of d k)))
    → ((n : ℕ) → among n (written (crossed_of d k)) ≡ true → bit set n ≡ (bit numbers n && goes_on d k line n))
    → longest_round (goes_on d k line) (written (crossed_of d k)) ≡ longest_round (bit set) (written (crossed_of d k))
set_round d k line numbers set used same =
    round_alike (goes_on d k line) (bit set) (written (crossed_of d k))
    (λ i h.
    let n : ℕ = get_or (written (crossed_of d k)) i 0 in
    let e : among n (written (crossed_of d k)) ≡ true = among_at (written (crossed_of d k)) i h in
    sym (same n e ∙ ap (λ (t : Bool). t && goes_on d k line n) (used n ∙ e)))

module _ (d : Draft) (l : Lent) (shows : Shows d l) where
  pub lines_below : (k : Kind) → below 64 (lines_of d k) ≡ true
  lines_below EndsOnFace = threading_below d l shows
  lines_below EndsOnBack = threading_below d l shows
  lines_below PicksOnFace = treadling_below d l shows
  lines_below PicksOnBack = treadling_below d l shows

  pub crossed_below : (k : Kind) → below 64 (crossed_of d k) ≡ true
  crossed_below EndsOnFace = treadling_below d l shows
  crossed_below EndsOnBack = treadling_below d l shows
  crossed_below PicksOnFace = threading_below d l shows
  crossed_below PicksOnBack = threading_below d l shows

  pub shaft_few : (s : ℕ) → among s (written d.threading) ≡ true → s < 64
  shaft_few s e = used_below 64 d.threading s (threading_below d l shows) e

  pub treadle_tied : (t : ℕ) → among t (written d.treadling) ≡ true → t < length l.ties.now
  treadle_tied t e = used_below (length l.ties.now) d.treadling t (treadling_tied d l shows) e
