-- The words after a call tell the desk that the call leaves.
use Rattle.std.proofs.Common.{◌≡◌, ℕ, zero, suc, ◌+◌, ◌/◌, ◌%◌, ◌^◌, ◌<◌, ◌≤◌, Bool, true, false, ◌&&◌, eqb, ltb, List, ◌∷◌, length, get_or, take, drop, set, sym, refl, ◌∙◌, inl, arith, ltb-true}
use borrow.Author.Tests.{eqb-false}
use lib.Bits.{bit_xor}
use Rattle.std.proofs.lemmas.List.{length-map, length-take-le, length-drop, length-set}
use Rattle.std.proofs.lemmas.Bool.{and_parts}
use Rattle.weave.specs.Rows.{pick, Row}
use Rattle.weave.specs.Calls.{Call, threads, treadles, ties, back, cell, part, floats, fewest, hangs, garbled, Desk, call_number, good_row, turned, turned_at, draft_after, past_after, after}
use Rattle.weave.specs.Promise.{carried, readable}
use Rattle.rows.specs.Words.{Small}
use Rattle.rows.proofs.Parts.{good_small, carried_fields}
use Rattle.desks.specs.declared.Which.{Which}
use Rattle.desks.specs.declared.Which.TheVariants.{Threading, Treadling}
use Rattle.desks.specs.Desks.{slot_before, row_number, tie_number, draft_in, places, desk_in, with_row}
use Rattle.desks.specs.Memory.{shafts_at, treadles_at, undos_at, undoable_at, ties_at, log_at, log_room, slots_at, limit_at, slot_at, words_at, log_of, slots_of, place_of, desk_of, limits_of, change_recorded, tie_turned, tie_changed, row_put, next_slot, row_changed, change_forgotten, slot_turned_back, turned_back, undone, Sound, changed, next_words}
use Rattle.desks.specs.Keepers.{Follows}
use Rattle.desks.proofs.Rings.{length_places}
use Rattle.desks.proofs.Parts.{kept_word, kept_set}
use Rattle.desks.proofs.Told.{changing, slot_behind, recorded_kept, recorded_length, forgotten_kept, forgotten_length, slot_room, put_limit, put_length, desk_tie_changed, desk_undone, desk_row_changed}
use Rattle.desks.proofs.Sounds.{sound_tie_changed, sound_undone, sound_row_changed}

-- a row that is taken is kept so
pub small_of : (b : ℕ) (r : Row) → good_row b r ≡ true → carried r ≡ true → Small r
small_of b r good c = good_small b r good (carried_fields r c)

-- not turned away: the test holds
pub taken : (a b : Bool) → eqb (pick a (pick b 0 2) 2) 0 ≡ true → b ≡ true
taken true true e = refl
taken true false e = e
taken false true e = refl
taken false false e = e

taken_back : (a b : Bool) → eqb (pick a (pick b 6 0) 2) 0 ≡ true → b ≡ false
taken_back true true e = sym e
taken_back true false e = refl
taken_back false true e = sym e
taken_back false false e = refl

-- as many drafts can be gone back to as are counted
pub past_long : (m : List ℕ) → Sound m → length (desk_of m).past ≡ get_or m undoable_at 0
unfolding desk_of desk_in
past_long m h =
    let lw : length (words_at log_at log_room m) ≡ log_room = length-take-le log_room (drop log_at m) (simp length-drop (omega (arith, h.long))) in
    length-map (places (get_or m undos_at 0) (place_of m) (log_of m)) (draft_in (slots_of m))
    ∙ length_places (get_or m undos_at 0) (place_of m) (log_of m)
    ∙ length-take-le (get_or m undoable_at 0) (words_at log_at log_room m) (omega (arith, h.undoable, h.undos))

-- the limits stay, and how long the memory is
pub record Alike (m n : List ℕ) : Type 0 where
  pub words : (i : ℕ) → i < undoable_at → get_or n i 0 ≡ get_or m i 0
  pub long : length n ≡ length m

pub limits_by : (can : ℕ → Bool) (m n : List ℕ) → Alike m n → limits_of can n ≡ limits_of can m
limits_by can m n same =
    λ i. record { calls_can = can; shafts = same.words shafts_at (omega arith) i; treadles = same.words treadles_at (omega arith) i; undos = same.words undos_at (omega arith) i }

pub alike_same : (m : List ℕ) → Alike m m
alike_same m = record { words = λ i lt. refl; long = refl }

pub alike_trans : (l m n : List ℕ) → Alike l m → Alike m n → Alike l n
alike_trans l m n p q = record { words = λ i lt. q.words i lt ∙ p.words i lt; long = q.long ∙ p.long }

alike_set : (a x : ℕ) (m : List ℕ) → undoable_at ≤ a → Alike m (set m a x)
alike_set a x m le = record { words = λ i lt. kept_word a 1 i m (set m a x) (kept_set a x m) (inl (omega arith)); long = length-set m a x }

alike_recorded : (e : ℕ) (m : List ℕ) → slots_at ≤ length m → Alike m (change_recorded e m)
alike_recorded e m long = record { words = λ i lt. kept_word undoable_at changing i m (change_recorded e m) (recorded_kept e m long) (inl lt); long = recorded_length e m long }

pub alike_tie_changed : (t s : ℕ) (m : List ℕ) → slots_at ≤ length m → Alike m (tie_changed t s m)
unfolding tie_changed
alike_tie_changed t s m long =
    let x = bit_xor (get_or m (ties_at + t) 0) (2 ^ s) in
    let l = length-set m (ties_at + t) x in
    alike_trans m (tie_turned t s m) (tie_changed t s m) (alike_set (ties_at + t) x m (omega arith)) (alike_recorded (tie_number t s) (tie_turned t s m) (omega arith))

alike_slot_back : (w : Which) (m : List ℕ) → Alike m (slot_turned_back w m)
alike_slot_back w m = alike_set (slot_at w) (slot_before (get_or m undos_at 0) (get_or m (slot_at w) 0)) m (omega (arith, slot_behind w))

alike_back : (e : ℕ) (m : List ℕ) → Alike m (turned_back e m)
unfolding turned_back
alike_back zero m = alike_slot_back Threading m
alike_back (suc zero) m = alike_slot_back Treadling m
alike_back (suc (suc k)) m = alike_set (ties_at + k / 64) (bit_xor (get_or m (ties_at + k / 64) 0) (2 ^ (k % 64))) m (omega arith)

alike_undone : (m : List ℕ) → slots_at ≤ length m → Alike m (undone m)
unfolding undone
alike_undone m long =
    alike_trans m (change_forgotten m) (undone m)
    (record { words = λ i lt. kept_word undoable_at changing i m (change_forgotten m) (forgotten_kept m long) (inl lt); long = forgotten_length m long })
    (alike_back (get_or m log_at 0) (change_forgotten m))

alike_row_changed : (w : Which) (r : Row) → Small r → (m : List ℕ) → Sound m → Alike m (row_changed w r m)
unfolding row_changed
alike_row_changed w r small m h =
    let k = next_slot w m in
    let n = row_put w k r m in
    let room = slot_room w m h in
    let one : Alike m n = record { words = λ i lt. put_limit w k r small m room i (omega arith); long = put_length w k r small m room } in
    alike_trans m n (row_changed w r m) one (alike_recorded (row_number w) n (omega (arith, one.long, h.long)))

-- what a call leaves: sound memory, with the same limits, that tells the desk
pub record Next (m n : List ℕ) (d : Desk) : Type 0 where
  pub sound : Sound n
  pub alike : Alike m n
  pub desk : desk_of n ≡ d

module _ (can : ℕ → Bool) (m : List ℕ) (h : Sound m) where
  row_done : (w : Which) (r : Row) → carried r ≡ true → good_row (get_or m (limit_at w) 0) r ≡ true →
      Next m (row_changed w r m) (record { now = with_row w r (desk_of m).now; past = take (get_or m undos_at 0) ((desk_of m).now ∷ (desk_of m).past) })
  row_done w r c good =
      let small = small_of (get_or m (limit_at w) 0) r good c in
      record { sound = sound_row_changed w r m h small good; alike = alike_row_changed w r small m h; desk = desk_row_changed w r m h small }

  done : (c : Call) → readable c ≡ true → eqb (turned_at (limits_of can m) (desk_of m) c) 0 ≡ true →
      Next m (changed m c) (record { now = draft_after (desk_of m) c; past = past_after (limits_of can m) (desk_of m) c })
  unfolding readable turned call_number changed draft_after past_after
  done (threads r) c e = row_done Threading r c (taken (can 0) (good_row (get_or m shafts_at 0) r) e)
  done (treadles r) c e = row_done Treadling r c (taken (can 1) (good_row (get_or m treadles_at 0) r) e)
  done (ties t s) c e =
      let g = and_parts _ _ (taken (can 2) (ltb t (get_or m treadles_at 0) && ltb s (get_or m shafts_at 0)) e) in
      let lt : t < get_or m treadles_at 0 = ltb-true t (get_or m treadles_at 0) g.0 in
      let ls : s < get_or m shafts_at 0 = ltb-true s (get_or m shafts_at 0) g.1 in
      record { sound = sound_tie_changed t s m h lt ls; alike = alike_tie_changed t s m (omega (arith, h.long)); desk = desk_tie_changed t s m h lt (omega (arith, h.shafts.1)) }
  done back c e =
      let g : eqb (length (desk_of m).past) 0 ≡ false = taken_back (can 3) (eqb (length (desk_of m).past) 0) e in
      let some : 0 < get_or m undoable_at 0 = omega (arith, past_long m h, eqb-false (length (desk_of m).past) 0 g) in
      record { sound = sound_undone m h; alike = alike_undone m (omega (arith, h.long)); desk = desk_undone m h some }
  done (cell r c) q e = record { sound = h; alike = alike_same m; desk = refl }
  done (part r c n) q e = record { sound = h; alike = alike_same m; desk = refl }
  done (floats k) q e = record { sound = h; alike = alike_same m; desk = refl }
  done fewest q e = record { sound = h; alike = alike_same m; desk = refl }
  done hangs q e = record { sound = h; alike = alike_same m; desk = refl }
  done (garbled n) q e = record { sound = h; alike = alike_same m; desk = refl }

  pub next_right : (c : Call) → readable c ≡ true → Next m (next_words can m c) (after (limits_of can m) (desk_of m) c)
  unfolding next_words
  next_right c q =
      let t = turned_at (limits_of can m) (desk_of m) c in
      let P : Bool → Type 0 = λ b. eqb t 0 ≡ b → Next m (pick b (changed m c) m) (pick b (record { now = draft_after (desk_of m) c; past = past_after (limits_of can m) (desk_of m) c }) (desk_of m)) in
      (elim (eqb t 0) as P [ true ↦ λ e. done c q e | false ↦ λ e. record { sound = h; alike = alike_same m; desk = refl } ]) refl

pub follows : Follows
follows can m c h q = let next = next_right can m h c q in (next.sound, limits_by can m (next_words can m c) next.alike, next.desk)
