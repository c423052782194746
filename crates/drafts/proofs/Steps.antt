-- What the code writes, step by step, is what the definitions say.
use Rattle.std.proofs.Common.{◌≡◌, ℕ, zero, suc, ◌+◌, ◌-◌, ◌*◌, ◌/◌, ◌%◌, ◌^◌, ◌<◌, ◌≤◌, List, ◌∷◌, ◌++◌, length, get_or, take, drop, set, sym, refl, ap, ◌∙◌, inr, append_assoc, arith}
use lib.Bits.{bit_xor}
use borrow.Rule.Slice.PartMut.{put_mid}
use Rattle.std.proofs.lemmas.List.{length-set, get_or_append_left, set-append_left, take-append-le, length-take-le, length-take, length-drop, drop-drop, take-append-drop, drop-append-le}
use Rattle.std.proofs.lemmas.Nat.{one_shl}
use Rattle.encoding.specs.Numbers.{placed}
use Rattle.weave.specs.Rows.{Row, size}
use Rattle.rows.specs.Words.{row_words, Small}
use Rattle.rows.proofs.Words.{words_long}
use Rattle.desks.specs.declared.Which.{Which}
use Rattle.desks.specs.declared.Which.TheVariants.{Threading, Treadling}
use Rattle.desks.specs.Desks.{slot_after, slot_before, row_number, tie_number}
use Rattle.desks.specs.Memory.{shafts_at, treadles_at, undos_at, undoable_at, ties_at, log_at, log_room, slots_at, row_room, slot_at, row_at, words_at, one_more, one_more_undoable, log_with, change_recorded, tie_turned, tie_changed, row_put, next_slot, row_changed, log_without, change_forgotten, slot_turned_back, turned_back, undone, Entry, Sound}
use Rattle.desks.proofs.Parts.{lent_placed, kept_set, kept_words}
use Rattle.desks.proofs.Told.{slot_before_ties, log_long, shorter_long, forgotten_length, slot_room, put_length}

-- the log stays where the count is written
log_stays : (x : ℕ) (m : List ℕ) → words_at log_at log_room (set m undoable_at x) ≡ words_at log_at log_room m
log_stays x m = kept_words undoable_at 1 log_at log_room m (set m undoable_at x) (kept_set undoable_at x m) (inr (omega arith))

-- a change recorded: the log is lent after the count was written
pub recorded : (e x : ℕ) (m ys : List ℕ) → length m ≡ slots_at → x ≡ one_more (get_or m undos_at 0) (get_or m undoable_at 0) →
    ys ≡ e ∷ take (length (words_at log_at log_room (set m undoable_at x)) - 1) (words_at log_at log_room (set m undoable_at x)) →
    put_mid log_at log_room (set m undoable_at x) ys ≡ change_recorded e m
unfolding change_recorded
recorded e x m ys long is eq =
    let l : length (words_at log_at log_room m) ≡ log_room = simp (length-take, length-drop) (omega arith) in
    let it : ys ≡ log_with e m = eq ∙ ap (λ w. e ∷ take (length w - 1) w) (log_stays x m) ∙ ap (λ n. e ∷ take (n - 1) (words_at log_at log_room m)) l in
    lent_placed log_at log_room (set m undoable_at x) ys (ap length it ∙ log_long e m (omega arith))
    ∙ ap (λ w. placed (set m undoable_at x) log_at w) it ∙ ap (λ v. placed (set m undoable_at v) log_at (log_with e m)) is

-- the same where only the words in front of the slots are lent for it
words_before : (a k : ℕ) (h r : List ℕ) → a + k ≤ length h → words_at a k (h ++ r) ≡ words_at a k h
words_before a k h r le = ap (take k) (drop-append-le a h r (omega arith)) ∙ take-append-le k (drop a h) r (simp length-drop (omega arith))

placed_before : (a : ℕ) (h r ws : List ℕ) → a + length ws ≤ length h → placed (h ++ r) a ws ≡ placed h a ws ++ r
unfolding placed
placed_before a h r ws le =
    ap (λ x. x ++ (ws ++ drop (a + length ws) (h ++ r))) (take-append-le a h r (omega arith))
    ∙ ap (λ x. take a h ++ (ws ++ x)) (drop-append-le (a + length ws) h r le)
    ∙ sym (append_assoc (take a h) (ws ++ drop (a + length ws) h) r ∙ ap (λ x. take a h ++ x) (append_assoc ws (drop (a + length ws) h) r))

recorded_before : (e : ℕ) (h r : List ℕ) → length h ≡ slots_at → change_recorded e (h ++ r) ≡ change_recorded e h ++ r
unfolding change_recorded
recorded_before e h r long =
    let one : one_more (get_or (h ++ r) undos_at 0) (get_or (h ++ r) undoable_at 0) ≡ one_more (get_or h undos_at 0) (get_or h undoable_at 0) =
    λ i. one_more (get_or_append_left h r 0 undos_at (omega arith) i) (get_or_append_left h r 0 undoable_at (omega arith) i) in
    let x = one_more (get_or h undos_at 0) (get_or h undoable_at 0) in
    let count : one_more_undoable (h ++ r) ≡ one_more_undoable h ++ r = ap (set (h ++ r) undoable_at) one ∙ set-append_left h r undoable_at x (omega arith) in
    (λ i. placed (count i) log_at (e ∷ take (log_room - 1) (words_before log_at log_room h r (omega arith) i)))
    ∙ placed_before log_at (one_more_undoable h) r (log_with e h) (omega (arith, log_long e h (omega arith), length-set h undoable_at x))

-- a change turned back where only the words in front of the log are lent for it
slot_back_before : (w : Which) (h r : List ℕ) → length h ≡ log_at → slot_turned_back w (h ++ r) ≡ slot_turned_back w h ++ r
slot_back_before w h r long =
    let lt : slot_at w < length h = omega (arith, slot_before_ties w) in
    (λ i. set (h ++ r) (slot_at w) (slot_before (get_or_append_left h r 0 undos_at (omega arith) i) (get_or_append_left h r 0 (slot_at w) lt i)))
    ∙ set-append_left h r (slot_at w) (slot_before (get_or h undos_at 0) (get_or h (slot_at w) 0)) lt

back_before : (e : ℕ) (h r : List ℕ) → length h ≡ log_at → Entry 64 64 e → turned_back e (h ++ r) ≡ turned_back e h ++ r
unfolding turned_back
back_before zero h r long ok = slot_back_before Threading h r long
back_before (suc zero) h r long ok = slot_back_before Treadling h r long
back_before (suc (suc k)) h r long ok =
    let t = ties_at + k / 64 in
    let lt : t < length h = omega (arith, (ok (omega arith)).0) in
    ap (λ w. set (h ++ r) t (bit_xor w (2 ^ (k % 64)))) (get_or_append_left h r 0 t lt) ∙ set-append_left h r t (bit_xor (get_or h t 0) (2 ^ (k % 64))) lt

-- a row turned back, where its slot's number stands at the place a, and a tie
pub row_turned : (w : Which) (a b : ℕ) (m : List ℕ) → a ≡ slot_at w → b ≡ slot_before (get_or m undos_at 0) (get_or m a 0) → set m a b ≡ turned_back (row_number w) m
unfolding turned_back
row_turned Threading a b m ea eb = (λ i. set m (ea i) b) ∙ ap (set m (slot_at Threading)) (eb ∙ ap (λ x. slot_before (get_or m undos_at 0) (get_or m x 0)) ea)
row_turned Treadling a b m ea eb = (λ i. set m (ea i) b) ∙ ap (set m (slot_at Treadling)) (eb ∙ ap (λ x. slot_before (get_or m undos_at 0) (get_or m x 0)) ea)

-- what is said of the front that was lent is so of all the memory
by_front : (f : List ℕ → List ℕ) (k : ℕ) (m ys : List ℕ) → k ≤ length m → ((h r : List ℕ) → length h ≡ k → f (h ++ r) ≡ f h ++ r) → ys ≡ f (take k m) → ys ++ drop k m ≡ f m
by_front f k m ys le goes eq = ap (λ y. y ++ drop k m) eq ∙ sym (goes (take k m) (drop k m) (length-take-le k m le)) ∙ ap f (take-append-drop k m)

-- 1 << s
pub tie_bit : (t s : ℕ) (m : List ℕ) → s < 64 → set m (ties_at + t) (bit_xor (get_or m (ties_at + t) 0) ((1 * 2 ^ s) % 2 ^ 64)) ≡ tie_turned t s m
tie_bit t s m lt = ap (λ b. set m (ties_at + t) (bit_xor (get_or m (ties_at + t) 0) b)) (one_shl s 64 lt)

pub tie_turned_is : (t s : ℕ) (m : List ℕ) → s < 64 → set m (ties_at + t) (bit_xor (get_or m (ties_at + t) 0) ((1 * 2 ^ s) % 2 ^ 64)) ≡ turned_back (tie_number t s) m
unfolding turned_back
tie_turned_is t s m lt =
    let et : (t * 64 + s) / 64 ≡ t = omega arith in
    let es : (t * 64 + s) % 64 ≡ s = omega arith in
    tie_bit t s m lt ∙ (λ i. tie_turned (sym et i) (sym es i) m)

-- the newest change taken off: the log is lent after the count was written
forgotten : (x : ℕ) (m ys : List ℕ) → slots_at ≤ length m → x ≡ get_or m undoable_at 0 - 1 →
    ys ≡ drop 1 (words_at log_at log_room (set m undoable_at x)) ++ take 1 (words_at log_at log_room (set m undoable_at x)) →
    put_mid log_at log_room (set m undoable_at x) ys ≡ change_forgotten m
forgotten x m ys long is eq =
    let it : ys ≡ log_without m = eq ∙ ap (λ w. drop 1 w ++ take 1 w) (log_stays x m) in
    lent_placed log_at log_room (set m undoable_at x) ys (ap length it ∙ shorter_long m long)
    ∙ ap (λ w. placed (set m undoable_at x) log_at w) it ∙ ap (λ v. placed (set m undoable_at v) log_at (log_without m)) is

-- words at the front of a part that is lent for them
part_written : (a k : ℕ) (m ws ys : List ℕ) → a + k ≤ length m → length ws ≤ k → ys ≡ ws ++ drop (length ws) (words_at a k m) → put_mid a k m ys ≡ placed m a ws
unfolding placed
part_written a k m ws ys long le eq =
    let d = drop a m in
    let l : length (take k d) ≡ k = length-take-le k d (simp length-drop (omega arith)) in
    let rest : drop (length ws) (take k d) ++ drop k d ≡ drop (a + length ws) m =
    sym (drop-append-le (length ws) (take k d) (drop k d) (omega arith)) ∙ ap (drop (length ws)) (take-append-drop k d) ∙ drop-drop (length ws) a m in
    ap (λ y. take a m ++ (y ++ drop k d)) eq
    ∙ ap (λ y. take a m ++ y) (append_assoc ws (drop (length ws) (take k d)) (drop k d) ∙ ap (λ y. ws ++ y) rest)

-- a tie turned, and the change recorded
pub tied : (t s : ℕ) (m ys : List ℕ) → Sound m → t < get_or m treadles_at 0 → s < get_or m shafts_at 0 →
    ys ≡ change_recorded (tie_number t s) (take slots_at (set m (ties_at + t) (bit_xor (get_or m (ties_at + t) 0) ((1 * 2 ^ s) % 2 ^ 64)))) →
    ys ++ drop slots_at (set m (ties_at + t) (bit_xor (get_or m (ties_at + t) 0) ((1 * 2 ^ s) % 2 ^ 64))) ≡ tie_changed t s m
unfolding tie_changed
tied t s m ys h lt ls eq =
    let x = bit_xor (get_or m (ties_at + t) 0) ((1 * 2 ^ s) % 2 ^ 64) in
    by_front (change_recorded (tie_number t s)) slots_at (set m (ties_at + t) x) ys (omega (arith, length-set m (ties_at + t) x, h.long)) (recorded_before (tie_number t s)) eq
    ∙ ap (change_recorded (tie_number t s)) (tie_bit t s m (omega (arith, h.shafts.1)))

-- the newest change is of shafts and treadles that there are
pub newest_in : (m : List ℕ) → Sound m → Entry 64 64 (get_or m log_at 0)
newest_in m h two = let e = h.entries 0 (omega arith) two in (omega (arith, e.0, h.treadles.1), omega (arith, e.1, h.shafts.1))

-- a change turned back that was taken off the log
module _ (m ys : List ℕ) (h : Sound m)
    (eq : ys ≡ drop 1 (words_at log_at log_room (set m undoable_at (get_or m undoable_at 0 - 1))) ++ take 1 (words_at log_at log_room (set m undoable_at (get_or m undoable_at 0 - 1)))) where
  abbrev left : List ℕ
  left = put_mid log_at log_room (set m undoable_at (get_or m undoable_at 0 - 1)) ys

  left_is : left ≡ change_forgotten m
  left_is = forgotten (get_or m undoable_at 0 - 1) m ys (omega (arith, h.long)) refl eq

  left_long : log_at ≤ length left
  left_long = omega (arith, ap length left_is, forgotten_length m (omega (arith, h.long)), h.long)

  pub front_long : length (take log_at left) ≡ log_at
  front_long = length-take-le log_at left left_long

  pub turned : (e : ℕ) (zs : List ℕ) → e ≡ get_or m log_at 0 → zs ≡ turned_back e (take log_at left) → zs ++ drop log_at left ≡ undone m
  unfolding undone
  turned e zs newest is =
      by_front (turned_back (get_or m log_at 0)) log_at left zs left_long (λ f r long. back_before (get_or m log_at 0) f r long (newest_in m h)) (is ∙ ap (λ x. turned_back x (take log_at left)) newest)
      ∙ ap (turned_back (get_or m log_at 0)) left_is

-- a row stored in the part lent for it, from the place a on, where k is the slot, and i the word that has its number
module _ (w : Which) (r : Row) (m ys : List ℕ) (i k a : ℕ) (h : Sound m) (small : Small r)
    (ei : i ≡ slot_at w) (ek : k ≡ slot_after (get_or m undos_at 0) (get_or m i 0)) (ea : a ≡ row_at w k)
    (eq : ys ≡ row_words r ++ drop (2 * size r) (words_at a ((a + row_room) - a) m)) where
  abbrev with_row : List ℕ
  with_row = set (put_mid a ((a + row_room) - a) m ys) i k

  next : k ≡ next_slot w m
  next = ek ∙ ap (λ j. slot_after (get_or m undos_at 0) (get_or m j 0)) ei

  with_row_is : with_row ≡ row_put w (next_slot w m) r m
  with_row_is =
      let room : a + ((a + row_room) - a) ≤ length m = omega (arith, next, slot_room w m h) in
      let long = words_long r in
      let it : ys ≡ row_words r ++ drop (length (row_words r)) (words_at a ((a + row_room) - a) m) = eq ∙ ap (λ n. row_words r ++ drop n (words_at a ((a + row_room) - a) m)) (sym long) in
      ap (λ y. set y i k) (part_written a ((a + row_room) - a) m (row_words r) ys room (omega (arith, small.few)) it)
      ∙ ap (λ y. set (placed m y (row_words r)) i k) ea
      ∙ (λ t. set (placed m (row_at w (next t)) (row_words r)) (ei t) (next t))

  pub entered : (zs : List ℕ) → zs ≡ change_recorded (row_number w) (take slots_at with_row) → zs ++ drop slots_at with_row ≡ row_changed w r m
  unfolding row_changed
  entered zs is =
      by_front (change_recorded (row_number w)) slots_at with_row zs
      (omega (arith, ap length with_row_is, put_length w (next_slot w m) r small m (slot_room w m h), h.long)) (recorded_before (row_number w)) is
      ∙ ap (change_recorded (row_number w)) with_row_is
