-- The draft there is, as it is lent to readers.
use Rattle.std.proofs.Common.{◌≡◌, ℕ, ◌+◌, ◌<◌, ◌≤◌, true, false, ◌&&◌, leb, List, length, get_or, drop, sym, ap, ◌∙◌, subst, arith}
use native.Mathlib.Decide.{dec_lt}
use Rattle.std.proofs.lemmas.List.{length-take-le, length-drop, get_or_past}
use Rattle.std.proofs.lemmas.Bool.{and_parts, and_from}
use Rattle.weave.specs.Rows.{Row, size, deep, long, below, some_each}
use Rattle.weave.specs.Cloth.{lifts}
use Rattle.weave.specs.Calls.{good_row}
use Rattle.weave.proofs.Rows.{below_more}
use Rattle.rows.specs.Words.{Begins, IsRow}
use Rattle.rows.specs.declared.lent_row.LentRow.{LentRow}
use Rattle.rows.proofs.Told.{begins_told}
use Rattle.lent.specs.Bits.{bit, bits_of}
use Rattle.lent.specs.Good.{Good}
use Rattle.lent.specs.Shows.{Shows}
use Rattle.lent.specs.declared.Lent.{Lent}
use Rattle.lent.proofs.Bits.{length_bits, bit_past}
use Rattle.desks.specs.declared.Which.{Which}
use Rattle.desks.specs.declared.Which.TheVariants.{Threading, Treadling}
use Rattle.desks.specs.Desks.{draft_in, desk_in}
use Rattle.desks.specs.Memory.{shafts_at, treadles_at, ties_at, row_room, limit_at, slot_at, row_at, words_at, desk_of, IsGoodRow, Sound}
use Rattle.desks.proofs.Parts.{get_or_words}
use Rattle.desks.proofs.Answered.{lifted_by, lifts_bit}

good_wider : (m n : ℕ) (r : Row) → m ≤ n → good_row m r ≡ true → good_row n r ≡ true
good_wider m n r le good =
    let p = and_parts (below m r && some_each r) ((leb (size r) 256 && leb (deep r) 32) && leb (long r) 16777216) good in
    let q = and_parts (below m r) (some_each r) p.0 in
    and_from _ _ (and_from _ _ (below_more m n r le q.0) q.1) p.1

module _ (m : List ℕ) (h : Sound m) where
  -- the row in the slot in which the draft has it
  abbrev lent_words : Which → List ℕ
  lent_words w = words_at (row_at w (get_or m (slot_at w) 0)) row_room m

  pub lent_row : (w : Which) → IsGoodRow (get_or m (limit_at w) 0) (lent_words w)
  lent_row w = h.rows w (get_or m (slot_at w) 0) (h.slots w)

  -- the rows of the draft keep to the limits
  pub threading_good : good_row (get_or m shafts_at 0) (desk_of m).now.threading ≡ true
  unfolding desk_of desk_in draft_in
  threading_good = (lent_row Threading).1

  pub treadling_good : good_row (get_or m treadles_at 0) (desk_of m).now.treadling ≡ true
  unfolding desk_of desk_in draft_in
  treadling_good = (lent_row Treadling).1

  -- a treadle's word has no bits for shafts that are not there
  all_lifts : (t s : ℕ) → t < get_or m treadles_at 0 → bit (get_or m (ties_at + t) 0) s ≡ lifts (desk_of m).now.tied t s
  all_lifts t s lt =
      elim (dec_lt s (get_or m shafts_at 0)) [
        | yes ls ↦ sym (lifts_bit m t s h lt ls)
        | no n ↦ bit_past (get_or m shafts_at 0) (get_or m (ties_at + t) 0) s (h.ties t (omega (arith, h.treadles.1))) (omega arith)
            ∙ sym (ap (λ bs. get_or bs s false) (lifted_by m t h lt)
            ∙ get_or_past (bits_of (get_or m shafts_at 0) (get_or m (ties_at + t) 0)) s false (omega (arith, length_bits (get_or m shafts_at 0) (get_or m (ties_at + t) 0))))
      ]

  -- the words of the draft there is are those of two rows, and of a draft
  pub lent_is_row : (w : Which) → IsRow (lent_words w)
  lent_is_row w = (lent_row w).0

  pub lent_good : (threading treadling : LentRow) (ties : List ℕ) → threading.words.now ≡ lent_words Threading → treadling.words.now ≡ lent_words Treadling → ties ≡ words_at ties_at (get_or m treadles_at 0) m
      → Good threading treadling ties
  lent_good threading treadling ties e f g =
      let lw : length ties ≡ get_or m treadles_at 0 = ap length g ∙ length-take-le (get_or m treadles_at 0) (drop ties_at m) (simp length-drop (omega (arith, h.long, h.treadles.1))) in
      record {
        shafts = rw e (good_wider (get_or m shafts_at 0) 64 _ h.shafts.1 (lent_row Threading).1);
        treadles = rw f (good_wider (get_or m treadles_at 0) (length ties) _ (omega arith) (lent_row Treadling).1);
        few = omega (arith, h.treadles.1);
      }

  pub shown : (l : Lent) → l.threading.words.now ≡ lent_words Threading → l.treadling.words.now ≡ lent_words Treadling → l.ties.now ≡ words_at ties_at (get_or m treadles_at 0) m → Shows (desk_of m).now l
  unfolding desk_of desk_in draft_in
  shown l e f g =
      let lw : length l.ties.now ≡ get_or m treadles_at 0 = ap length g ∙ length-take-le (get_or m treadles_at 0) (drop ties_at m) (simp length-drop (omega (arith, h.long, h.treadles.1))) in
      record {
        threading = subst (Begins _) (sym e) (begins_told _ (lent_row Threading).0);
        threading_good = good_wider (get_or m shafts_at 0) 64 _ h.shafts.1 (lent_row Threading).1;
        treadling = subst (Begins _) (sym f) (begins_told _ (lent_row Treadling).0);
        treadling_good = good_wider (get_or m treadles_at 0) (length l.ties.now) _ (omega arith) (lent_row Treadling).1;
        few = omega (arith, h.treadles.1);
        tied = λ t s lt small.
            ap (λ ws. bit (get_or ws t 0) s) g
            ∙ ap (λ w. bit w s) (get_or_words ties_at (get_or m treadles_at 0) t m (omega arith))
            ∙ all_lifts t s (omega arith);
      }
