-- What a memory tells after a change.
use Rattle.std.proofs.Common.{◌≡◌, ℕ, zero, suc, ◌+◌, ◌-◌, ◌*◌, ◌/◌, ◌%◌, ◌^◌, ◌<◌, ◌≤◌, Bool, true, false, ltb, ◌≢◌, ◌⊎◌, List, [], ◌∷◌, ◌++◌, length, get_or, take, drop, set, sym, refl, ap, ◌∙◌, inl, inr, arith, ltb-false, ltb-true}
use native.Mathlib.Decide.{dec_lt}
use lib.Bits.{bit_xor}
use Rattle.std.proofs.lemmas.List.{take-take, take_all, length-take-le, length-take, length-drop, length-set, length-append, get_or-set_same, take-append-le}
use Rattle.weave.specs.Rows.{pick, Row, size}
use Rattle.weave.specs.Calls.{tied_so, good_row}
use Rattle.encoding.specs.Numbers.{placed}
use Rattle.rows.specs.Words.{row_words, Small, Begins, row_of}
use Rattle.rows.proofs.Words.{words_long}
use Rattle.rows.proofs.Told.{row_told, is_row}
use Rattle.desks.specs.declared.Which.{Which}
use Rattle.desks.specs.declared.Which.TheVariants.{Threading, Treadling}
use Rattle.desks.specs.Desks.{slot_before, with_tie, with_slot, row_number, tie_number, before, desk_in, with_row}
use Rattle.desks.specs.Memory.{shafts_at, treadles_at, undos_at, undoable_at, threading_slot_at, ties_at, ties_room, log_at, log_room, slots_at, row_room, limit_at, slot_at, row_at, words_at, slots_of, place_of, log_of, desk_of, one_more, one_more_undoable, log_with, change_recorded, tie_turned, tie_changed, row_put, next_slot, row_changed, log_without, one_less_undoable, change_forgotten, slot_turned_back, turned_back, undone, Entry, IsGoodRow, Sound}
use Rattle.desks.proofs.Rings.{after_in}
use Rattle.desks.proofs.Parts.{Kept, kept_words, kept_word, kept_set, kept_placed, placed_words, length_placed, placed_there, kept_trans, kept_wider, words_set, get_or_words}
use Rattle.desks.proofs.Views.{other, by_row, slot_here, slot_there, desk_back, desk_tied, desk_row}

-- words that begin with a good row
pub good_begun : (n : ℕ) (r : Row) (ws : List ℕ) → Begins r ws → good_row n r ≡ true → IsGoodRow n ws
good_begun n r ws b good = (is_row r ws b, ap (good_row n) (row_told r ws b) ∙ good)

-- where the words of the two rows are
pub row_few : (w : Which) → row_number w < 2
row_few Threading = omega arith
row_few Treadling = omega arith

pub limit_in : (w : Which) → limit_at w < undos_at
limit_in Threading = omega arith
limit_in Treadling = omega arith

pub slot_behind : (w : Which) → undoable_at < slot_at w
slot_behind Threading = omega arith
slot_behind Treadling = omega arith

pub slot_before_ties : (w : Which) → slot_at w < 6
slot_before_ties Threading = omega arith
slot_before_ties Treadling = omega arith

pub slots_differ : (w : Which) → slot_at (other w) ≢ slot_at w
slots_differ Threading e = omega arith
slots_differ Treadling e = omega arith

-- the words behind the limits and in front of the slots; those from the slots' numbers on to the log
abbrev pub changing : ℕ
changing = slots_at - undoable_at

abbrev pub turning : ℕ
turning = log_at - threading_slot_at

-- the limits and the slots stay
abbrev pub SlotsKept : List ℕ → List ℕ → Type 0
SlotsKept m n = Kept undoable_at changing m n

pub slots_same : (m n : List ℕ) → SlotsKept m n → slots_of n ≡ slots_of m
slots_same m n h =
    λ i. record {
      shafts = kept_word undoable_at changing shafts_at m n h (inl (omega arith)) i;
      treadles = kept_word undoable_at changing treadles_at m n h (inl (omega arith)) i;
      undos = kept_word undoable_at changing undos_at m n h (inl (omega arith)) i;
      row_in = λ w k. row_of 32 (kept_words undoable_at changing (row_at w k) row_room m n h (inr (omega arith)) i);
    }

-- a change recorded
module _ (e : ℕ) (m : List ℕ) (long : slots_at ≤ length m) where
  pub log_long : length (log_with e m) ≡ log_room
  log_long = simp (length-take, length-take, length-drop) (omega arith)

  recorded_log : Kept log_at log_room (one_more_undoable m) (change_recorded e m)
  unfolding change_recorded
  recorded_log = kept_placed log_at log_room (log_with e m) (one_more_undoable m) log_long (simp length-set (omega arith))

  counted : Kept undoable_at 1 m (one_more_undoable m)
  counted = kept_set undoable_at (one_more (get_or m undos_at 0) (get_or m undoable_at 0)) m

  pub recorded_kept : SlotsKept m (change_recorded e m)
  recorded_kept =
      kept_trans undoable_at changing m (one_more_undoable m) (change_recorded e m)
      (kept_wider undoable_at 1 undoable_at changing m (one_more_undoable m) counted (omega arith) (omega arith))
      (kept_wider log_at log_room undoable_at changing (one_more_undoable m) (change_recorded e m) recorded_log (omega arith) (omega arith))

  -- a word that is neither counted nor in the log
  pub recorded_word : (i : ℕ) → undoable_at < i → i < log_at → get_or (change_recorded e m) i 0 ≡ get_or m i 0
  recorded_word i p q = kept_word log_at log_room i (one_more_undoable m) (change_recorded e m) recorded_log (inl q) ∙ kept_word undoable_at 1 i m (one_more_undoable m) counted (inr p)

  pub recorded_count : get_or (change_recorded e m) undoable_at 0 ≡ one_more (get_or m undos_at 0) (get_or m undoable_at 0)
  recorded_count =
      kept_word log_at log_room undoable_at (one_more_undoable m) (change_recorded e m) recorded_log (inl (omega arith))
      ∙ get_or-set_same m undoable_at (one_more (get_or m undos_at 0) (get_or m undoable_at 0)) 0 (omega arith)

  recorded_ties : words_at ties_at ties_room (change_recorded e m) ≡ words_at ties_at ties_room m
  recorded_ties =
      kept_words log_at log_room ties_at ties_room (one_more_undoable m) (change_recorded e m) recorded_log (inl (omega arith))
      ∙ kept_words undoable_at 1 ties_at ties_room m (one_more_undoable m) counted (inr (omega arith))

  pub recorded_words : words_at log_at log_room (change_recorded e m) ≡ log_with e m
  unfolding change_recorded
  recorded_words = placed_words log_at log_room (log_with e m) (one_more_undoable m) log_long (simp length-set (omega arith))

  pub recorded_length : length (change_recorded e m) ≡ length m
  unfolding change_recorded
  recorded_length =
      let l = length-set m undoable_at (one_more (get_or m undos_at 0) (get_or m undoable_at 0)) in
      length_placed log_at (log_with e m) (one_more_undoable m) (omega (arith, log_long, l)) ∙ l

  recorded_place : place_of (change_recorded e m) ≡ place_of m
  recorded_place =
      λ i. record { slot = λ w. recorded_word (slot_at w) (slot_behind w) (omega (arith, slot_before_ties w)) i; ties = recorded_ties i }

-- one more, and the oldest forgotten where there are too many
log_more : (u c e : ℕ) (l : List ℕ) → u ≤ 256 → c ≤ u → take (one_more u c) (e ∷ take 255 l) ≡ take u (e ∷ take c l)
log_more u c e l small le =
    let P : Bool → Type 0 = λ b. ltb c u ≡ b → take (pick b (suc c) c) (e ∷ take 255 l) ≡ take u (e ∷ take c l) in
    (elim (ltb c u) as P [
      | true ↦ λ h. less u (ltb-true c u h) small
      | false ↦ λ h. let eq : c ≡ u = omega (arith, ltb-false c u h) in rw eq (full u small)
    ]) refl
  where
    less : (u : ℕ) → c < u → u ≤ 256 → e ∷ take c (take 255 l) ≡ take u (e ∷ take c l)
    less zero lt s = absurd (omega arith)
    less (suc v) lt s = ap (λ x. e ∷ x) (take-take c 255 l (omega arith) ∙ sym (take_all v (take c l) (simp length-take (omega arith))))

    full : (u : ℕ) → u ≤ 256 → take u (e ∷ take 255 l) ≡ take u (e ∷ take u l)
    full zero s = refl
    full (suc v) s = ap (λ x. e ∷ x) (take-take v 255 l (omega arith) ∙ sym (take-take v (suc v) l (omega arith)))

recorded_log_of : (e : ℕ) (m : List ℕ) → slots_at ≤ length m → get_or m undos_at 0 ≤ 256 → get_or m undoable_at 0 ≤ get_or m undos_at 0 →
    log_of (change_recorded e m) ≡ take (get_or m undos_at 0) (e ∷ log_of m)
recorded_log_of e m long small le =
    ap (λ c. take c (words_at log_at log_room (change_recorded e m))) (recorded_count e m long)
    ∙ ap (take (one_more (get_or m undos_at 0) (get_or m undoable_at 0))) (recorded_words e m long)
    ∙ log_more (get_or m undos_at 0) (get_or m undoable_at 0) e (words_at log_at log_room m) small le

desk_recorded : (e : ℕ) (m : List ℕ) → slots_at ≤ length m → get_or m undos_at 0 ≤ 256 → get_or m undoable_at 0 ≤ get_or m undos_at 0 →
    desk_of (change_recorded e m) ≡ desk_in (slots_of m) (place_of m) (take (get_or m undos_at 0) (e ∷ log_of m))
unfolding desk_of
desk_recorded e m long small le =
    λ i. desk_in (slots_same m (change_recorded e m) (recorded_kept e m long) i) (recorded_place e m long i) (recorded_log_of e m long small le i)

-- where only words behind the count and in front of the log are written
log_same : (m n : List ℕ) (a k : ℕ) → Kept a k m n → undoable_at < a → a + k ≤ log_at → log_of n ≡ log_of m
log_same m n a k h p q = λ i. take (kept_word a k undoable_at m n h (inl p) i) (kept_words a k log_at log_room m n h (inr q) i)

-- a tie turned
module _ (t s : ℕ) (m : List ℕ) (lt : t < ties_room) where
  pub tie_kept : Kept (ties_at + t) 1 m (tie_turned t s m)
  tie_kept = kept_set (ties_at + t) (bit_xor (get_or m (ties_at + t) 0) (2 ^ s)) m

  tie_wide : SlotsKept m (tie_turned t s m)
  tie_wide = kept_wider (ties_at + t) 1 undoable_at changing m (tie_turned t s m) tie_kept (omega arith) (omega arith)

  tie_ties : words_at ties_at ties_room (tie_turned t s m) ≡ with_tie (words_at ties_at ties_room m) t s
  tie_ties =
      words_set ties_at ties_room t (bit_xor (get_or m (ties_at + t) 0) (2 ^ s)) m lt
      ∙ ap (λ w. set (words_at ties_at ties_room m) t (bit_xor w (2 ^ s))) (sym (get_or_words ties_at ties_room t m lt))

  pub tie_word : (i : ℕ) → i < ties_at → get_or (tie_turned t s m) i 0 ≡ get_or m i 0
  tie_word i l = kept_word (ties_at + t) 1 i m (tie_turned t s m) tie_kept (inl (omega arith))

  tie_place : place_of (tie_turned t s m) ≡ record { slot = (place_of m).slot; ties = with_tie (words_at ties_at ties_room m) t s }
  tie_place = λ i. record { slot = λ w. tie_word (slot_at w) (omega (arith, slot_before_ties w)) i; ties = tie_ties i }

  tie_log : log_of (tie_turned t s m) ≡ log_of m
  tie_log = log_same m (tie_turned t s m) (ties_at + t) 1 tie_kept (omega arith) (omega arith)

pub desk_tie_changed : (t s : ℕ) (m : List ℕ) → Sound m → t < get_or m treadles_at 0 → s < 64 →
    desk_of (tie_changed t s m)
    ≡ record {
      now = record { threading = (desk_of m).now.threading; tied = tied_so (desk_of m).now.tied t s; treadling = (desk_of m).now.treadling };
      past = take (get_or m undos_at 0) ((desk_of m).now ∷ (desk_of m).past);
    }
unfolding desk_of tie_changed
desk_tie_changed t s m h lt small =
    let few : t < ties_room = omega (arith, h.treadles.1) in
    let n = tie_turned t s m in
    let u : get_or n undos_at 0 ≡ get_or m undos_at 0 = tie_word t s m few undos_at (omega arith) in
    let c : get_or n undoable_at 0 ≡ get_or m undoable_at 0 = tie_word t s m few undoable_at (omega arith) in
    let ln : length n ≡ length m = length-set m (ties_at + t) (bit_xor (get_or m (ties_at + t) 0) (2 ^ s)) in
    let lw : length (words_at ties_at ties_room m) ≡ ties_room = length-take-le ties_room (drop ties_at m) (simp length-drop (omega (arith, h.long))) in
    desk_recorded (tie_number t s) n (omega (arith, h.long)) (omega (arith, h.undos)) (omega (arith, h.undoable))
    ∙ (λ i. desk_in (slots_same m n (tie_wide t s m few) i) (tie_place t s m few i) (take (u i) (tie_number t s ∷ tie_log t s m few i)))
    ∙ desk_tied (slots_of m) (place_of m) (log_of m) t s small lt (omega (arith, h.treadles.1))

-- the newest change taken off the log
module _ (m : List ℕ) (long : slots_at ≤ length m) where
  pub shorter_long : length (log_without m) ≡ log_room
  shorter_long =
      let l : length (words_at log_at log_room m) ≡ log_room = simp (length-take, length-drop) (omega arith) in
      length-append (drop 1 (words_at log_at log_room m)) (take 1 (words_at log_at log_room m))
      ∙ omega (arith, l, length-drop 1 (words_at log_at log_room m), length-take-le 1 (words_at log_at log_room m) (omega arith))

  forgotten_count : Kept undoable_at 1 m (one_less_undoable m)
  forgotten_count = kept_set undoable_at (get_or m undoable_at 0 - 1) m

  forgotten_log : Kept log_at log_room (one_less_undoable m) (change_forgotten m)
  forgotten_log = kept_placed log_at log_room (log_without m) (one_less_undoable m) shorter_long (simp length-set (omega arith))

  pub forgotten_kept : SlotsKept m (change_forgotten m)
  forgotten_kept =
      kept_trans undoable_at changing m (one_less_undoable m) (change_forgotten m)
      (kept_wider undoable_at 1 undoable_at changing m (one_less_undoable m) forgotten_count (omega arith) (omega arith))
      (kept_wider log_at log_room undoable_at changing (one_less_undoable m) (change_forgotten m) forgotten_log (omega arith) (omega arith))

  pub forgotten_word : (i : ℕ) → undoable_at < i → i < log_at → get_or (change_forgotten m) i 0 ≡ get_or m i 0
  forgotten_word i p q =
      kept_word log_at log_room i (one_less_undoable m) (change_forgotten m) forgotten_log (inl q) ∙ kept_word undoable_at 1 i m (one_less_undoable m) forgotten_count (inr p)

  forgotten_place : place_of (change_forgotten m) ≡ place_of m
  forgotten_place =
      λ i. record {
        slot = λ w. forgotten_word (slot_at w) (slot_behind w) (omega (arith, slot_before_ties w)) i;
        ties = (kept_words log_at log_room ties_at ties_room (one_less_undoable m) (change_forgotten m) forgotten_log (inl (omega arith))
            ∙ kept_words undoable_at 1 ties_at ties_room m (one_less_undoable m) forgotten_count (inr (omega arith))) i;
      }

  pub forgotten_number : get_or (change_forgotten m) undoable_at 0 ≡ get_or m undoable_at 0 - 1
  forgotten_number =
      kept_word log_at log_room undoable_at (one_less_undoable m) (change_forgotten m) forgotten_log (inl (omega arith)) ∙ get_or-set_same m undoable_at (get_or m undoable_at 0 - 1) 0 (omega arith)

  pub forgotten_words : words_at log_at log_room (change_forgotten m) ≡ log_without m
  forgotten_words = placed_words log_at log_room (log_without m) (one_less_undoable m) shorter_long (simp length-set (omega arith))

  pub forgotten_length : length (change_forgotten m) ≡ length m
  forgotten_length =
      let l = length-set m undoable_at (get_or m undoable_at 0 - 1) in
      length_placed log_at (log_without m) (one_less_undoable m) (omega (arith, shorter_long, l)) ∙ l

-- what is left of a log after its first
log_less : (l : List ℕ) (c : ℕ) → 0 < c → c ≤ length l → take c l ≡ get_or l 0 0 ∷ take (c - 1) (drop 1 l ++ take 1 l)
log_less [] zero p le = absurd (omega arith)
log_less [] (suc c) p le = absurd (omega arith)
log_less (x ∷ l) zero p le = absurd (omega arith)
log_less (x ∷ l) (suc c) p le = let e : suc c - 1 ≡ c = omega arith in rw e (ap (λ y. x ∷ y) (sym (take-append-le c l (x ∷ []) (omega arith))))

forgotten_log_of : (m : List ℕ) → slots_at ≤ length m → 0 < get_or m undoable_at 0 → get_or m undoable_at 0 ≤ 256 → log_of m ≡ get_or m log_at 0 ∷ log_of (change_forgotten m)
forgotten_log_of m long p le =
    let lw : length (words_at log_at log_room m) ≡ log_room = length-take-le log_room (drop log_at m) (simp length-drop (omega arith)) in
    log_less (words_at log_at log_room m) (get_or m undoable_at 0) p (omega arith)
    ∙ (λ i. get_or_words log_at log_room 0 m (omega arith) i ∷ take (sym (forgotten_number m long) i) (sym (forgotten_words m long) i))

-- a change turned back
slot_back_kept : (w : Which) (m : List ℕ) → Kept threading_slot_at turning m (slot_turned_back w m)
slot_back_kept w m =
    kept_wider (slot_at w) 1 threading_slot_at turning m (slot_turned_back w m) (kept_set (slot_at w) (slot_before (get_or m undos_at 0) (get_or m (slot_at w) 0)) m)
    (omega (arith, slot_behind w)) (omega (arith, slot_before_ties w))

back_kept : (n e : ℕ) (m : List ℕ) → Entry n ties_room e → Kept threading_slot_at turning m (turned_back e m)
unfolding turned_back
back_kept n zero m ok = slot_back_kept Threading m
back_kept n (suc zero) m ok = slot_back_kept Treadling m
back_kept n (suc (suc k)) m ok =
    let few : k / 64 < ties_room = omega (arith, (ok (omega arith)).0) in
    kept_wider (ties_at + k / 64) 1 threading_slot_at turning m (tie_turned (k / 64) (k % 64) m) (tie_kept (k / 64) (k % 64) m few) (omega arith) (omega arith)

slot_back_place : (w : Which) (m : List ℕ) → slots_at ≤ length m →
    place_of (slot_turned_back w m) ≡ record { slot = with_slot w (slot_before (get_or m undos_at 0) (get_or m (slot_at w) 0)) (place_of m).slot; ties = (place_of m).ties }
slot_back_place w m long =
    let x = slot_before (get_or m undos_at 0) (get_or m (slot_at w) 0) in
    let n = set m (slot_at w) x in
    let kept : Kept (slot_at w) 1 m n = kept_set (slot_at w) x m in
    λ i. record {
      slot = λ v. by_row (λ v. get_or n (slot_at v) 0 ≡ with_slot w x (place_of m).slot v) w
          (get_or-set_same m (slot_at w) x 0 (omega (arith, slot_before_ties w)) ∙ sym (slot_here w x (place_of m).slot))
          (kept_word (slot_at w) 1 (slot_at (other w)) m n kept (apart (slot_at (other w)) (slot_at w) (slots_differ w)) ∙ sym (slot_there w x (place_of m).slot)) v i;
      ties = kept_words (slot_at w) 1 ties_at ties_room m n kept (inr (omega (arith, slot_before_ties w))) i;
    }
  where
    apart : (i j : ℕ) → i ≢ j → (i < j) ⊎ (j + 1 ≤ i)
    apart i j ne = elim (dec_lt i j) [ yes l ↦ inl l | no n ↦ inr (omega arith) ]

back_place : (n e : ℕ) (m : List ℕ) → slots_at ≤ length m → Entry n ties_room e → place_of (turned_back e m) ≡ before (get_or m undos_at 0) (place_of m) e
unfolding turned_back before
back_place n zero m long ok = slot_back_place Threading m long
back_place n (suc zero) m long ok = slot_back_place Treadling m long
back_place n (suc (suc k)) m long ok = tie_place (k / 64) (k % 64) m (omega (arith, (ok (omega arith)).0))

-- an entry of the log that is a tie is one of the 64 treadles for which there is room
pub entry_in : (m : List ℕ) → Sound m → (i : ℕ) → i < log_room → Entry (get_or m shafts_at 0) ties_room (get_or m (log_at + i) 0)
entry_in m h i lt two = let e = h.entries i lt two in (omega (arith, e.0, h.treadles.1), e.1)

pub desk_undone : (m : List ℕ) → Sound m → 0 < get_or m undoable_at 0 →
    desk_of (undone m) ≡ record { now = get_or (desk_of m).past 0 (desk_of m).now; past = drop 1 (desk_of m).past }
unfolding desk_of undone
desk_undone m h p =
    let long : slots_at ≤ length m = omega (arith, h.long) in
    let s = get_or m shafts_at 0 in
    let e = get_or m log_at 0 in
    let f = change_forgotten m in
    let ok : Entry s ties_room e = entry_in m h 0 (omega arith) in
    let kept : Kept threading_slot_at turning f (turned_back e f) = back_kept s e f ok in
    let lf : slots_at ≤ length f = omega (arith, forgotten_length m long) in
    let u : get_or f undos_at 0 ≡ get_or m undos_at 0 = kept_word undoable_at changing undos_at m f (forgotten_kept m long) (inl (omega arith)) in
    let all : desk_in (slots_of m) (place_of m) (log_of m) ≡ desk_in (slots_of m) (place_of m) (e ∷ log_of f) =
    ap (desk_in (slots_of m) (place_of m)) (forgotten_log_of m long p (omega (arith, h.undoable, h.undos))) in
    (λ i. desk_in ((slots_same f (turned_back e f) (kept_wider threading_slot_at turning undoable_at changing f (turned_back e f) kept (omega arith) (omega arith)) ∙ slots_same m f (forgotten_kept m long)) i)
    ((back_place s e f lf ok ∙ (λ j. before (u j) (forgotten_place m long j) e)) i)
    (log_same f (turned_back e f) threading_slot_at turning kept (omega arith) (omega arith) i))
    ∙ desk_back (slots_of m) (place_of m) e (log_of f)
    ∙ ap (λ d. record { now = get_or d.past 0 d.now; past = drop 1 d.past }) (sym all)

pub take_past : (n : ℕ) (xs ys : List ℕ) → length xs ≤ n → take n (xs ++ ys) ≡ xs ++ take (n - length xs) ys
take_past n [] ys le = let e : n - 0 ≡ n = omega arith in rw e refl
take_past zero (x ∷ xs) ys le = absurd (omega arith)
take_past (suc n) (x ∷ xs) ys le = let e : suc n - suc (length xs) ≡ n - length xs = omega arith in rw e (ap (λ r. x ∷ r) (take_past n xs ys (omega arith)))

-- two rows lie apart
pub apart_slots : (w : Which) (x k : ℕ) → x ≢ k → (row_at w x + row_room ≤ row_at w k) ⊎ (row_at w k + row_room ≤ row_at w x)
apart_slots w x k ne = elim (dec_lt x k) [ yes l ↦ inl (omega arith) | no n ↦ inr (omega arith) ]

pub apart_rows : (w : Which) (x k : ℕ) → (row_at (other w) x + row_room ≤ row_at w k) ⊎ (row_at w k + row_room ≤ row_at (other w) x)
apart_rows Threading x k = elim (dec_lt x k) [ yes l ↦ inl (omega arith) | no n ↦ inr (omega arith) ]
apart_rows Treadling x k = elim (dec_lt k x) [ yes l ↦ inr (omega arith) | no n ↦ inl (omega arith) ]

-- a row put into a slot
module _ (w : Which) (k : ℕ) (r : Row) (small : Small r) (m : List ℕ) (room : row_at w k + row_room ≤ length m) where
  abbrev with_it : List ℕ
  with_it = placed m (row_at w k) (row_words r)

  abbrev after_it : List ℕ
  after_it = row_put w k r m

  row_kept : Kept (row_at w k) row_room m with_it
  row_kept =
      kept_wider (row_at w k) (2 * size r) (row_at w k) row_room m with_it (kept_placed (row_at w k) (2 * size r) (row_words r) m (words_long r) (omega arith)) (omega arith) (omega (arith, small.few))

  slot_kept : Kept (slot_at w) 1 with_it after_it
  slot_kept = kept_set (slot_at w) k with_it

  with_length : length with_it ≡ length m
  with_length = length_placed (row_at w k) (row_words r) m (omega (arith, words_long r, small.few))

  pub put_length : length after_it ≡ length m
  put_length = length-set with_it (slot_at w) k ∙ with_length

  -- in front of the slots
  pub put_word : (i : ℕ) → i < slots_at → i ≢ slot_at w → get_or after_it i 0 ≡ get_or m i 0
  put_word i lt ne =
      kept_word (slot_at w) 1 i with_it after_it slot_kept (elim (dec_lt i (slot_at w)) [ yes l ↦ inl l | no n ↦ inr (omega arith) ])
      ∙ kept_word (row_at w k) row_room i m with_it row_kept (inl (omega arith))

  pub put_slot : get_or after_it (slot_at w) 0 ≡ k
  put_slot = get_or-set_same with_it (slot_at w) k 0 (omega (arith, with_length, slot_before_ties w))

  pub put_words : (b j : ℕ) → ties_at ≤ b → (b + j ≤ row_at w k) ⊎ (row_at w k + row_room ≤ b) → words_at b j after_it ≡ words_at b j m
  put_words b j le apart =
      kept_words (slot_at w) 1 b j with_it after_it slot_kept (inr (omega (arith, slot_before_ties w))) ∙ kept_words (row_at w k) row_room b j m with_it row_kept apart

  pub put_begins : Begins r (words_at (row_at w k) row_room after_it)
  put_begins =
      record {
        small = small;
        rest = take (row_room - length (row_words r)) (drop (row_at w k + length (row_words r)) m);
        is = kept_words (slot_at w) 1 (row_at w k) row_room with_it after_it slot_kept (inr (omega (arith, slot_before_ties w)))
            ∙ ap (take row_room) (placed_there (row_at w k) (row_words r) m (omega arith))
            ∙ take_past row_room (row_words r) (drop (row_at w k + length (row_words r)) m) (omega (arith, words_long r, small.few));
      }

  -- the other slots of the same kind, and all of the other
  pub put_here : (x : ℕ) → x ≢ k → words_at (row_at w x) row_room after_it ≡ words_at (row_at w x) row_room m
  put_here x ne = put_words (row_at w x) row_room (omega arith) (apart_slots w x k ne)

  pub put_there : (x : ℕ) → words_at (row_at (other w) x) row_room after_it ≡ words_at (row_at (other w) x) row_room m
  put_there x = put_words (row_at (other w) x) row_room (omega arith) (apart_rows w x k)

  put_log : log_of after_it ≡ log_of m
  put_log = λ i. take (put_word undoable_at (omega arith) (λ e. omega (arith, slot_behind w)) i) (put_words log_at log_room (omega arith) (inl (omega arith)) i)

  put_place : place_of after_it ≡ record { slot = with_slot w k (place_of m).slot; ties = (place_of m).ties }
  put_place =
      λ i. record {
        slot = λ v. by_row (λ v. get_or after_it (slot_at v) 0 ≡ with_slot w k (place_of m).slot v) w
            (put_slot ∙ sym (slot_here w k (place_of m).slot))
            (put_word (slot_at (other w)) (omega (arith, slot_before_ties (other w))) (slots_differ w) ∙ sym (slot_there w k (place_of m).slot)) v i;
        ties = put_words ties_at ties_room (omega arith) (inl (omega arith)) i;
      }

  pub put_limit : (i : ℕ) → i < 4 → get_or after_it i 0 ≡ get_or m i 0
  put_limit i lt = put_word i (omega arith) (λ e. omega (arith, slot_behind w))

pub slot_room : (w : Which) (m : List ℕ) → Sound m → row_at w (next_slot w m) + row_room ≤ length m
slot_room w m h = omega (arith, after_in (get_or m undos_at 0) (get_or m (slot_at w) 0) (h.slots w), row_few w, h.long)

pub desk_row_changed : (w : Which) (r : Row) (m : List ℕ) → Sound m → Small r →
    desk_of (row_changed w r m) ≡ record { now = with_row w r (desk_of m).now; past = take (get_or m undos_at 0) ((desk_of m).now ∷ (desk_of m).past) }
unfolding desk_of row_changed
desk_row_changed w r m h small =
    let k = next_slot w m in
    let n = row_put w k r m in
    let room = slot_room w m h in
    let limit : (i : ℕ) → i < 4 → get_or n i 0 ≡ get_or m i 0 = put_limit w k r small m room in
    let eu : get_or n undos_at 0 ≡ get_or m undos_at 0 = limit undos_at (omega arith) in
    let rows : Which → ℕ → Row = λ x j. row_of 32 (words_at (row_at x j) row_room n) in
    let d = desk_in (slots_of m) (place_of m) (log_of m) in
    desk_recorded (row_number w) n (omega (arith, put_length w k r small m room, h.long)) (omega (arith, h.undos)) (omega (arith, limit undoable_at (omega arith), h.undoable))
    ∙ (λ i. desk_in (record { shafts = limit shafts_at (omega arith) i; treadles = limit treadles_at (omega arith) i; undos = eu i; row_in = rows })
    (put_place w k r small m room i) (take (eu i) (row_number w ∷ put_log w k r small m room i)))
    ∙ desk_row (slots_of m) rows w (place_of m) (log_of m) (h.slots w)
    (λ x ne. ap (row_of 32) (put_here w k r small m room x ne)) (λ x. ap (row_of 32) (put_there w k r small m room x))
    ∙ ap (λ x. record { now = with_row w x d.now; past = take (get_or m undos_at 0) (d.now ∷ d.past) })
    (row_told r (words_at (row_at w k) row_room n) (put_begins w k r small m room))
