-- Memory stays as opening and calls leave it.
use Rattle.std.proofs.Common.{◌≡◌, ℕ, zero, suc, ◌+◌, ◌/◌, ◌%◌, ◌^◌, ◌<◌, ◌≤◌, Bool, true, false, ltb, ◌≢◌, ◌⊎◌, List, length, get_or, take, drop, set, sym, refl, ap, ◌∙◌, subst, inl, inr, arith, ltb-true}
use native.Mathlib.Decide.{dec_lt}
use lib.Bits.{bit_xor, xor_lt}
use Rattle.std.proofs.lemmas.Nat.{pow_below}
use Rattle.std.proofs.lemmas.List.{length-set, length-take, get_or-set_same, get_or-set_other, get_or_past}
use Rattle.weave.specs.Rows.{pick, Row}
use Rattle.weave.specs.Calls.{good_row}
use Rattle.rows.specs.Words.{Small}
use Rattle.desks.specs.declared.Which.{Which}
use Rattle.desks.specs.declared.Which.TheVariants.{Threading, Treadling}
use Rattle.desks.specs.Desks.{slot_before, row_number, tie_number}
use Rattle.desks.specs.Memory.{shafts_at, treadles_at, undos_at, undoable_at, threading_slot_at, ties_at, ties_room, log_at, log_room, slots_at, row_room, limit_at, slot_at, row_at, words_at, one_more, log_with, change_recorded, tie_turned, tie_changed, row_put, next_slot, row_changed, log_without, change_forgotten, slot_turned_back, turned_back, undone, Entry, IsGoodRow, Sound}
use Rattle.desks.proofs.Rings.{before_in, after_in}
use Rattle.desks.proofs.Parts.{Kept, kept_words, kept_word, kept_set, kept_wider, get_or_words}
use Rattle.desks.proofs.Each.{Each, each_cons, each_append, each_take, each_drop}
use Rattle.desks.proofs.Views.{other, by_row}
use Rattle.desks.proofs.Told.{good_begun, changing, turning, row_few, limit_in, slot_behind, slot_before_ties, slots_differ, SlotsKept, recorded_kept, recorded_word, recorded_count, recorded_words, recorded_length, tie_kept, tie_word, forgotten_kept, forgotten_word, forgotten_number, forgotten_words, forgotten_length, put_length, put_word, put_slot, put_here, put_there, put_begins, put_limit}

-- a row that is in a slot is in it after the words there stayed, with the limit
same_row : (m n : List ℕ) (w : Which) (k : ℕ) → get_or n (limit_at w) 0 ≡ get_or m (limit_at w) 0 → words_at (row_at w k) row_room n ≡ words_at (row_at w k) row_room m →
    IsGoodRow (get_or m (limit_at w) 0) (words_at (row_at w k) row_room m) → IsGoodRow (get_or n (limit_at w) 0) (words_at (row_at w k) row_room n)
same_row m n w k e same row = subst (IsGoodRow (get_or n (limit_at w) 0)) (sym same) (subst (λ x. IsGoodRow x (words_at (row_at w k) row_room m)) (sym e) row)

-- where the limits and the slots stay
sound_by : (m n : List ℕ) → Sound m → SlotsKept m n → length n ≡ length m → get_or n undoable_at 0 ≤ get_or m undos_at 0 → ((w : Which) → get_or n (slot_at w) 0 ≤ get_or m undos_at 0) →
    ((t : ℕ) → t < ties_room → get_or n (ties_at + t) 0 < 2 ^ get_or m shafts_at 0) →
    ((i : ℕ) → i < log_room → Entry (get_or m shafts_at 0) (get_or m treadles_at 0) (get_or n (log_at + i) 0)) → Sound n
sound_by m n h kept len count slots ties entries =
    let e0 : get_or n shafts_at 0 ≡ get_or m shafts_at 0 = kept_word undoable_at changing shafts_at m n kept (inl (omega arith)) in
    let e1 : get_or n treadles_at 0 ≡ get_or m treadles_at 0 = kept_word undoable_at changing treadles_at m n kept (inl (omega arith)) in
    let e2 : get_or n undos_at 0 ≡ get_or m undos_at 0 = kept_word undoable_at changing undos_at m n kept (inl (omega arith)) in
    record {
      long = omega (arith, h.long);
      shafts = (omega (arith, h.shafts.0), omega (arith, h.shafts.1));
      treadles = (omega (arith, h.treadles.0), omega (arith, h.treadles.1));
      undos = omega (arith, h.undos);
      undoable = omega arith;
      slots = λ w. omega (arith, slots w);
      ties = λ t lt. subst (λ x. get_or n (ties_at + t) 0 < 2 ^ x) (sym e0) (ties t lt);
      entries = λ i lt two. let e = entries i lt two in (omega (arith, e.0), omega (arith, e.1));
      rows = λ w k le. same_row m n w k (kept_word undoable_at changing (limit_at w) m n kept (inl (omega (arith, limit_in w))))
          (kept_words undoable_at changing (row_at w k) row_room m n kept (inr (omega arith))) (h.rows w k (omega arith));
    }

one_more_le : (u c : ℕ) → c ≤ u → one_more u c ≤ u
one_more_le u c le =
    let P : Bool → Type 0 = λ b. ltb c u ≡ b → pick b (suc c) c ≤ u in
    (elim (ltb c u) as P [ true ↦ λ h. omega (arith, ltb-true c u h) | false ↦ λ h. le ]) refl

entry_none : (n m : ℕ) → Entry n m 0
entry_none n m two = absurd (omega arith)

-- the entries as they stand in the log
entries_of : (m : List ℕ) → Sound m → Each (Entry (get_or m shafts_at 0) (get_or m treadles_at 0)) (words_at log_at log_room m)
entries_of m h i =
    let P = Entry (get_or m shafts_at 0) (get_or m treadles_at 0) in
    elim (dec_lt i log_room) [
      | yes lt ↦ subst P (sym (get_or_words log_at log_room i m lt)) (h.entries i lt)
      | no n ↦ subst P (sym (get_or_past (words_at log_at log_room m) i 0 (simp length-take (omega arith)))) (entry_none (get_or m shafts_at 0) (get_or m treadles_at 0))
    ]

-- the log after a change, if all that it has then are entries
entries_by : (n m : ℕ) (l : List ℕ) (k : List ℕ) → words_at log_at log_room l ≡ k → Each (Entry n m) k → (i : ℕ) → i < log_room → Entry n m (get_or l (log_at + i) 0)
entries_by n m l k e all i lt = subst (Entry n m) (sym (ap (λ x. get_or x i 0) e) ∙ get_or_words log_at log_room i l lt) (all i)

pub sound_recorded : (e : ℕ) (m : List ℕ) → Sound m → Entry (get_or m shafts_at 0) (get_or m treadles_at 0) e → Sound (change_recorded e m)
sound_recorded e m h ok =
    let long : slots_at ≤ length m = omega (arith, h.long) in
    let n = change_recorded e m in
    let s = get_or m shafts_at 0 in
    let t = get_or m treadles_at 0 in
    sound_by m n h (recorded_kept e m long) (recorded_length e m long)
    (omega (arith, recorded_count e m long, one_more_le (get_or m undos_at 0) (get_or m undoable_at 0) h.undoable))
    (λ w. omega (arith, recorded_word e m long (slot_at w) (slot_behind w) (omega (arith, slot_before_ties w)), h.slots w))
    (λ j lt. subst (λ x. x < 2 ^ s) (sym (recorded_word e m long (ties_at + j) (omega arith) (omega arith))) (h.ties j lt))
    (entries_by s t n (log_with e m) (recorded_words e m long)
    (each_cons (Entry s t) e (take 255 (words_at log_at log_room m)) ok (each_take (Entry s t) (entry_none s t) 255 (words_at log_at log_room m) (entries_of m h))))

pub sound_forgotten : (m : List ℕ) → Sound m → Sound (change_forgotten m)
sound_forgotten m h =
    let long : slots_at ≤ length m = omega (arith, h.long) in
    let n = change_forgotten m in
    let s = get_or m shafts_at 0 in
    let t = get_or m treadles_at 0 in
    let l = words_at log_at log_room m in
    sound_by m n h (forgotten_kept m long) (forgotten_length m long) (omega (arith, forgotten_number m long, h.undoable))
    (λ w. omega (arith, forgotten_word m long (slot_at w) (slot_behind w) (omega (arith, slot_before_ties w)), h.slots w))
    (λ j lt. subst (λ x. x < 2 ^ s) (sym (forgotten_word m long (ties_at + j) (omega arith) (omega arith))) (h.ties j lt))
    (entries_by s t n (log_without m) (forgotten_words m long)
    (each_append (Entry s t) (drop 1 l) (take 1 l) (each_drop (Entry s t) (entry_none s t) 1 l (entries_of m h)) (each_take (Entry s t) (entry_none s t) 1 l (entries_of m h))))

-- where only words from the slots' numbers on to the log are written
sound_head : (m n : List ℕ) → Sound m → Kept threading_slot_at turning m n → length n ≡ length m → ((w : Which) → get_or n (slot_at w) 0 ≤ get_or m undos_at 0) →
    ((t : ℕ) → t < ties_room → get_or n (ties_at + t) 0 < 2 ^ get_or m shafts_at 0) → Sound n
sound_head m n h kept len slots ties =
    sound_by m n h (kept_wider threading_slot_at turning undoable_at changing m n kept (omega arith) (omega arith)) len (omega (arith, kept_word threading_slot_at turning undoable_at m n kept (inl (omega arith)), h.undoable)) slots ties
    (λ i lt. subst (Entry (get_or m shafts_at 0) (get_or m treadles_at 0)) (sym (kept_word threading_slot_at turning (log_at + i) m n kept (inr (omega arith)))) (h.entries i lt))

same_or_not : (x k : ℕ) → (x ≡ k) ⊎ (x ≢ k)
same_or_not x k = elim (dec_lt x k) [ yes l ↦ inr (λ e. omega arith) | no n ↦ elim (dec_lt k x) [ yes l ↦ inr (λ e. omega arith) | no o ↦ inl (omega arith) ] ]

pub sound_tie : (t s : ℕ) (m : List ℕ) → Sound m → t < ties_room → s < get_or m shafts_at 0 → Sound (tie_turned t s m)
sound_tie t s m h lt small =
    let a = ties_at + t in
    let x = bit_xor (get_or m a 0) (2 ^ s) in
    let n = tie_turned t s m in
    let lm : a < length m = omega (arith, h.long) in
    let fits : x < 2 ^ get_or m shafts_at 0 = xor_lt (get_or m shafts_at 0) (get_or m a 0) (2 ^ s) (h.ties t lt) (pow_below s (get_or m shafts_at 0) small) in
    sound_head m n h (kept_wider a 1 threading_slot_at turning m n (tie_kept t s m lt) (omega arith) (omega arith)) (length-set m a x)
    (λ w. omega (arith, tie_word t s m lt (slot_at w) (omega (arith, slot_before_ties w)), h.slots w))
    (λ j few. elim (same_or_not j t) [
      | inl e ↦ subst (λ y. get_or n (ties_at + y) 0 < 2 ^ get_or m shafts_at 0) (sym e) (subst (λ y. y < 2 ^ get_or m shafts_at 0) (sym (get_or-set_same m a x 0 lm)) fits)
      | inr ne ↦ subst (λ y. y < 2 ^ get_or m shafts_at 0) (sym (get_or-set_other m a (ties_at + j) x 0 (λ e. ne (omega arith)))) (h.ties j few)
    ])

pub sound_tie_changed : (t s : ℕ) (m : List ℕ) → Sound m → t < get_or m treadles_at 0 → s < get_or m shafts_at 0 → Sound (tie_changed t s m)
unfolding tie_changed
sound_tie_changed t s m h lt ls =
    let few : t < ties_room = omega (arith, h.treadles.1) in
    let e0 = tie_word t s m few shafts_at (omega arith) in
    let e1 = tie_word t s m few treadles_at (omega arith) in
    sound_recorded (tie_number t s) (tie_turned t s m) (sound_tie t s m h few ls) (λ two. (omega (arith, h.shafts.1), omega (arith, h.shafts.1)))

sound_slot_back : (w : Which) (m : List ℕ) → Sound m → Sound (slot_turned_back w m)
sound_slot_back w m h =
    let x = slot_before (get_or m undos_at 0) (get_or m (slot_at w) 0) in
    let n = set m (slot_at w) x in
    let a = slot_before_ties w in
    let b = slot_behind w in
    sound_head m n h (kept_wider (slot_at w) 1 threading_slot_at turning m n (kept_set (slot_at w) x m) (omega arith) (omega arith)) (length-set m (slot_at w) x)
    (by_row (λ v. get_or n (slot_at v) 0 ≤ get_or m undos_at 0) w
    (omega (arith, get_or-set_same m (slot_at w) x 0 (omega (arith, h.long)), before_in (get_or m undos_at 0) (get_or m (slot_at w) 0) (h.slots w)))
    (omega (arith, get_or-set_other m (slot_at w) (slot_at (other w)) x 0 (slots_differ w), h.slots (other w))))
    (λ t lt. subst (λ y. y < 2 ^ get_or m shafts_at 0) (sym (get_or-set_other m (slot_at w) (ties_at + t) x 0 (λ e. omega arith))) (h.ties t lt))

pub sound_back : (e : ℕ) (m : List ℕ) → Sound m → Entry (get_or m shafts_at 0) (get_or m treadles_at 0) e → Sound (turned_back e m)
unfolding turned_back
sound_back zero m h ok = sound_slot_back Threading m h
sound_back (suc zero) m h ok = sound_slot_back Treadling m h
sound_back (suc (suc k)) m h ok =
    let both = ok (omega arith) in
    sound_tie (k / 64) (k % 64) m h (omega (arith, both.0, h.treadles.1)) (omega (arith, both.1))

pub sound_undone : (m : List ℕ) → Sound m → Sound (undone m)
unfolding undone
sound_undone m h =
    let long : slots_at ≤ length m = omega (arith, h.long) in
    let f = change_forgotten m in
    let e0 : get_or f shafts_at 0 ≡ get_or m shafts_at 0 = kept_word undoable_at changing shafts_at m f (forgotten_kept m long) (inl (omega arith)) in
    let e1 : get_or f treadles_at 0 ≡ get_or m treadles_at 0 = kept_word undoable_at changing treadles_at m f (forgotten_kept m long) (inl (omega arith)) in
    sound_back (get_or m log_at 0) f (sound_forgotten m h) (λ two. let e = h.entries 0 (omega arith) two in (omega (arith, e.0), omega (arith, e.1)))

-- a row put into a slot
sound_put : (w : Which) (k : ℕ) (r : Row) (m : List ℕ) → Sound m → Small r → good_row (get_or m (limit_at w) 0) r ≡ true → k ≤ get_or m undos_at 0 → Sound (row_put w k r m)
sound_put w k r m h small good le =
    let n = row_put w k r m in
    let room : row_at w k + row_room ≤ length m = omega (arith, row_few w, h.long) in
    let limit : (i : ℕ) → i < 4 → get_or n i 0 ≡ get_or m i 0 = put_limit w k r small m room in
    let word : (i : ℕ) → i < slots_at → i ≢ slot_at w → get_or n i 0 ≡ get_or m i 0 = put_word w k r small m room in
    let a = slot_before_ties w in
    let e0 = limit shafts_at (omega arith) in
    let e1 = limit treadles_at (omega arith) in
    let e2 = limit undos_at (omega arith) in
    let one : (v : Which) → get_or n (limit_at v) 0 ≡ get_or m (limit_at v) 0 = λ v. limit (limit_at v) (omega (arith, limit_in v)) in
    record {
      long = omega (arith, h.long, put_length w k r small m room);
      shafts = (omega (arith, h.shafts.0), omega (arith, h.shafts.1));
      treadles = (omega (arith, h.treadles.0), omega (arith, h.treadles.1));
      undos = omega (arith, h.undos);
      undoable = omega (arith, h.undoable, limit undoable_at (omega arith));
      slots = by_row (λ v. get_or n (slot_at v) 0 ≤ get_or n undos_at 0) w (omega (arith, put_slot w k r small m room))
          (omega (arith, h.slots (other w), word (slot_at (other w)) (omega (arith, slot_before_ties (other w))) (slots_differ w)));
      ties = λ t lt. subst (λ x. get_or n (ties_at + t) 0 < 2 ^ x) (sym e0) (subst (λ x. x < 2 ^ get_or m shafts_at 0) (sym (word (ties_at + t) (omega arith) (λ e. omega arith))) (h.ties t lt));
      entries = λ i lt two.
          let same = word (log_at + i) (omega arith) (λ e. omega arith) in
          let e = h.entries i lt (omega arith) in
          (omega (arith, e.0), omega (arith, e.1));
      rows = by_row (λ v. (x : ℕ) → x ≤ get_or n undos_at 0 → IsGoodRow (get_or n (limit_at v) 0) (words_at (row_at v x) row_room n)) w
          (λ x lx. elim (same_or_not x k) [
            | inl e ↦ subst (λ y. IsGoodRow (get_or n (limit_at w) 0) (words_at (row_at w y) row_room n)) (sym e) (good_begun _ r _ (put_begins w k r small m room) (ap (λ y. good_row y r) (one w) ∙ good))
            | inr ne ↦ same_row m n w x (one w) (put_here w k r small m room x ne) (h.rows w x (omega arith))
          ])
          (λ x lx. same_row m n (other w) x (one (other w)) (put_there w k r small m room x) (h.rows (other w) x (omega arith)));
    }

pub sound_row_changed : (w : Which) (r : Row) (m : List ℕ) → Sound m → Small r → good_row (get_or m (limit_at w) 0) r ≡ true → Sound (row_changed w r m)
unfolding row_changed
sound_row_changed w r m h small good =
    sound_recorded (row_number w) (row_put w (next_slot w m) r m) (sound_put w (next_slot w m) r m h small good (after_in (get_or m undos_at 0) (get_or m (slot_at w) 0) (h.slots w)))
    (λ two. absurd (omega (arith, row_few w)))
