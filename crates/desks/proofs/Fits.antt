-- Every word of the memory has 64 bits, and there are few enough.
use Rattle.std.proofs.Common.{◌≡◌, ℕ, zero, suc, ◌+◌, ◌-◌, ◌*◌, ◌/◌, ◌%◌, ◌^◌, ◌<◌, ◌≤◌, Bool, true, false, ◌&&◌, eqb, ltb, List, [], ◌∷◌, ◌++◌, get_or, take, drop, replicate, refl, mul-add, arith}
use lib.Bits.{bit_xor, xor_lt}
use Rattle.std.proofs.lemmas.Bool.{and_parts, and_from, lt-ltb, ltb-true}
use Rattle.std.proofs.lemmas.Nat.{pow_below}
use Rattle.weave.specs.Rows.{pick, Row, one, then, times, turned, run, size, long}
use Rattle.weave.specs.Calls.{Call, threads, treadles, ties, back, cell, part, floats, fewest, hangs, garbled, turned_at, call_number, good_row}
use Rattle.weave.specs.Calls as calls
use Rattle.weave.specs.Promise.{fields_in, readable, all_readable, all_below, left_by, EnoughMemory}
use Rattle.rows.specs.Words.{row_words, head_word, two_numbers, Small}
use Rattle.rows.proofs.Parts.{small_then, small_times, small_turned}
use Rattle.desks.specs.declared.Which.{Which}
use Rattle.desks.specs.declared.Which.TheVariants.{Threading, Treadling}
use Rattle.desks.specs.Desks.{slot_before, row_number, tie_number}
use Rattle.desks.specs.Memory.{shafts_at, treadles_at, undos_at, undoable_at, ties_at, log_at, log_room, slots_at, row_part, slot_at, row_at, words_at, one_more, one_more_undoable, log_with, change_recorded, tie_turned, tie_changed, row_put, next_slot, row_changed, log_without, one_less_undoable, change_forgotten, slot_turned_back, turned_back, undone, Sound, changed, next_words, limits_of, desk_of}
use Rattle.desks.specs.Keepers.{new_row, new_rows, new_head, opened_words, keeper}
use Rattle.desks.proofs.Rings.{before_in, after_in}
use Rattle.desks.proofs.Each.{Each, each_cons, each_append, each_set, each_nil, each_take, each_drop, each_zeros, each_placed}
use Rattle.desks.proofs.Told.{row_few}
use Rattle.desks.proofs.Sounds.{sound_forgotten}
use Rattle.desks.proofs.Keeps.{next_right, small_of, taken}
use Rattle.desks.proofs.Opens.{opened_long}
use Rattle.desks.proofs.Promised.{mem, opened_good, left_right}

abbrev Fit : ℕ → Type 0
Fit x = x < 18446744073709551616

abbrev pub Fits : List ℕ → Type 0
Fits m = Each Fit m

none : Fit 0
none = omega arith

fits_words : (a k : ℕ) (m : List ℕ) → Fits m → Fits (words_at a k m)
fits_words a k m f = each_take Fit none k (drop a m) (each_drop Fit none a m f)

one_more_fits : (u c : ℕ) → Fit u → Fit c → Fit (one_more u c)
one_more_fits u c p q =
    let P : Bool → Type 0 = λ b. ltb c u ≡ b → Fit (pick b (suc c) c) in
    (elim (ltb c u) as P [ true ↦ λ h. omega (arith, ltb-true c u h) | false ↦ λ h. q ]) refl

fits_recorded : (e : ℕ) (m : List ℕ) → Fit e → Fits m → Fits (change_recorded e m)
unfolding change_recorded
fits_recorded e m lt f =
    let l = words_at log_at log_room m in
    each_placed Fit none (one_more_undoable m) log_at (log_with e m)
    (each_cons Fit e (take 255 l) lt (each_take Fit none 255 l (fits_words log_at log_room m f)))
    (each_set Fit m undoable_at (one_more (get_or m undos_at 0) (get_or m undoable_at 0)) (one_more_fits (get_or m undos_at 0) (get_or m undoable_at 0) (f undos_at) (f undoable_at)) f)

fits_tie : (t s : ℕ) (m : List ℕ) → s < 64 → Fits m → Fits (tie_turned t s m)
fits_tie t s m lt f =
    let w = get_or m (ties_at + t) 0 in
    each_set Fit m (ties_at + t) (bit_xor w (2 ^ s)) (xor_lt 64 w (2 ^ s) (f (ties_at + t)) (pow_below s 64 lt)) f

fits_slot_back : (w : Which) (m : List ℕ) → Sound m → Fits m → Fits (slot_turned_back w m)
fits_slot_back w m h f =
    each_set Fit m (slot_at w) (slot_before (get_or m undos_at 0) (get_or m (slot_at w) 0)) (omega (arith, before_in (get_or m undos_at 0) (get_or m (slot_at w) 0) (h.slots w), h.undos)) f

fits_back : (e : ℕ) (m : List ℕ) → Sound m → Fits m → Fits (turned_back e m)
unfolding turned_back
fits_back zero m h f = fits_slot_back Threading m h f
fits_back (suc zero) m h f = fits_slot_back Treadling m h f
fits_back (suc (suc k)) m h f = fits_tie (k / 64) (k % 64) m (omega arith) f

fits_forgotten : (m : List ℕ) → Fits m → Fits (change_forgotten m)
fits_forgotten m f =
    let l = words_at log_at log_room m in
    let w = fits_words log_at log_room m f in
    each_placed Fit none (one_less_undoable m) log_at (log_without m)
    (each_append Fit (drop 1 l) (take 1 l) (each_drop Fit none 1 l w) (each_take Fit none 1 l w))
    (each_set Fit m undoable_at (get_or m undoable_at 0 - 1) (omega (arith, f undoable_at)) f)

-- the words of a row
part_fits : (kind left n a b : ℕ) (ws : List ℕ) → kind < 8 → left ≤ 256 → n ≤ 16777216 → a < 4294967296 → b < 4294967296 → Fits ws → Fits (head_word kind left n ∷ (two_numbers a b ∷ ws))
part_fits kind left n a b ws lk ll ln la lb f =
    each_cons Fit (head_word kind left n) (two_numbers a b ∷ ws) (omega arith) (each_cons Fit (two_numbers a b) ws (omega arith) f)

fits_row : (r : Row) → Small r → Fits (row_words r)
unfolding row_words fields_in size long
fits_row (one n) h = part_fits 0 0 1 n 0 [] (omega arith) (omega arith) (omega arith) (ltb-true n 4294967296 h.fields) (omega arith) (each_nil Fit none)
fits_row (then p q) h =
    let both = small_then p q h in
    part_fits 1 (size p) (long p + long q) 0 0 (row_words p ++ row_words q) (omega arith) (omega (arith, both.0.few)) h.short (omega arith) (omega arith)
    (each_append Fit (row_words p) (row_words q) (fits_row p both.0) (fits_row q both.1))
fits_row (times n p) h =
    part_fits 2 0 (n * long p) n 0 (row_words p) (omega arith) (omega arith) h.short (ltb-true n 4294967296 (and_parts _ _ h.fields).0) (omega arith) (fits_row p (small_times n p h))
fits_row (turned p) h = part_fits 3 0 (long p) 0 0 (row_words p) (omega arith) (omega arith) h.short (omega arith) (omega arith) (fits_row p (small_turned p h))
fits_row (run a b) h =
    let g = and_parts _ _ h.fields in
    part_fits 4 0 (suc ((b - a) + (a - b))) a b [] (omega arith) (omega arith) h.short (ltb-true a 4294967296 g.0) (ltb-true b 4294967296 g.1) (each_nil Fit none)

module _ (can : ℕ → Bool) (m : List ℕ) (h : Sound m) (f : Fits m) where
  fits_row_changed : (w : Which) (r : Row) → Small r → Fits (row_changed w r m)
  unfolding row_changed
  fits_row_changed w r small =
      let k = next_slot w m in
      fits_recorded (row_number w) (row_put w k r m) (omega (arith, row_few w))
      (each_set Fit _ (slot_at w) k (omega (arith, after_in (get_or m undos_at 0) (get_or m (slot_at w) 0) (h.slots w), h.undos))
      (each_placed Fit none m (row_at w k) (row_words r) (fits_row r small) f))

  fits_changed : (c : Call) → readable c ≡ true → eqb (turned_at (limits_of can m) (desk_of m) c) 0 ≡ true → Fits (changed m c)
  unfolding readable calls.turned call_number changed tie_changed undone
  fits_changed (threads r) q e = fits_row_changed Threading r (small_of (get_or m shafts_at 0) r (taken (can 0) (good_row (get_or m shafts_at 0) r) e) q)
  fits_changed (treadles r) q e = fits_row_changed Treadling r (small_of (get_or m treadles_at 0) r (taken (can 1) (good_row (get_or m treadles_at 0) r) e) q)
  fits_changed (ties t s) q e =
      let g = and_parts (ltb t (get_or m treadles_at 0)) (ltb s (get_or m shafts_at 0)) (taken (can 2) (ltb t (get_or m treadles_at 0) && ltb s (get_or m shafts_at 0)) e) in
      let lt : t < get_or m treadles_at 0 = ltb-true t (get_or m treadles_at 0) g.0 in
      let ls : s < get_or m shafts_at 0 = ltb-true s (get_or m shafts_at 0) g.1 in
      fits_recorded (tie_number t s) (tie_turned t s m) (omega (arith, h.treadles.1, h.shafts.1)) (fits_tie t s m (omega (arith, h.shafts.1)) f)
  fits_changed back q e = fits_back (get_or m log_at 0) (change_forgotten m) (sound_forgotten m h) (fits_forgotten m f)
  fits_changed (cell r c) q e = f
  fits_changed (part r c n) q e = f
  fits_changed (floats k) q e = f
  fits_changed fewest q e = f
  fits_changed hangs q e = f
  fits_changed (garbled n) q e = f

  fits_next : (c : Call) → readable c ≡ true → Fits (next_words can m c)
  unfolding next_words
  fits_next c q =
      let t = turned_at (limits_of can m) (desk_of m) c in
      let P : Bool → Type 0 = λ b. eqb t 0 ≡ b → Fits (pick b (changed m c) m) in
      (elim (eqb t 0) as P [ true ↦ λ e. fits_changed c q e | false ↦ λ e. f ]) refl

fits_left : (can : ℕ → Bool) (cs : List Call) (m : List ℕ) → Sound m → Fits m → all_readable cs ≡ true → Fits (left_by (keeper can) (mem m) cs).words
unfolding left_by all_readable
fits_left can [] m h f r = f
fits_left can (c ∷ cs) m h f r =
    let q = and_parts _ _ r in
    fits_left can cs (next_words can m c) (next_right can m h c q.0).sound (fits_next can m h f c q.0) q.1

fits_new_row : Fits new_row
unfolding row_words
fits_new_row = part_fits 0 0 1 0 0 (replicate (row_part - 2) 0) (omega arith) (omega arith) (omega arith) (omega arith) (omega arith) (each_zeros Fit none (row_part - 2))

fits_new : (n : ℕ) → Fits (new_rows n)
unfolding new_rows
fits_new zero = each_nil Fit none
fits_new (suc n) = each_append Fit new_row (new_rows n) fits_new_row (fits_new n)

fits_opened : (s t u : ℕ) → s ≤ 64 → t ≤ 64 → u ≤ 256 → Fits (opened_words s t u)
unfolding opened_words
fits_opened s t u a b c =
    let zeros : List ℕ = replicate (slots_at - 3) 0 in
    each_append Fit (new_head s t u) (new_rows (2 * (u + 1)))
    (each_cons Fit s (t ∷ (u ∷ zeros)) (omega arith) (each_cons Fit t (u ∷ zeros) (omega arith) (each_cons Fit u zeros (omega arith) (each_zeros Fit none (slots_at - 3)))))
    (fits_new (2 * (u + 1)))

below_of : (m : List ℕ) → Fits m → all_below 18446744073709551616 m ≡ true
unfolding all_below
below_of [] f = refl
below_of (x ∷ m) f = and_from _ _ (lt-ltb x 18446744073709551616 (f 0)) (below_of m (λ i. f (suc i)))

pub memory_at : (can : ℕ → Bool) → EnoughMemory (keeper can)
unfolding EnoughMemory
memory_at can l cs good r =
    let s = l.shafts in
    let t = l.treadles in
    let u = l.undos in
    let m = opened_words s t u in
    let h = opened_good l good in
    let n = (left_by (keeper can) (mem m) cs).words in (
      omega (arith, (left_right can cs m h r).alike.long, opened_long s t u, mul-add (u + 1) 1024 t, good.4),
      below_of n (fits_left can cs m h (fits_opened s t u good.1 good.3 good.4) r),
    )
