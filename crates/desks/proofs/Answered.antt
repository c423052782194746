-- What calls are answered, in words.
use Rattle.std.proofs.Common.{◌≡◌, ℕ, zero, suc, ◌+◌, ◌-◌, ◌/◌, ◌%◌, ◌^◌, ◌<◌, ◌≤◌, Bool, true, false, ◌&&◌, eqb, ltb, ◌⊎◌, List, [], length, get_or, drop, sym, refl, ap, ◌∙◌, inl, inr, arith}
use Rattle.std.proofs.lemmas.List.{length-take-le, length-drop}
use Rattle.std.proofs.lemmas.Bool.{and_from, and_left, and_right, lt-ltb, le-ltb, eq-eqb, ne_eqb}
use Rattle.weave.specs.Rows.{pick, Row, long}
use Rattle.weave.specs.Cloth.{lifts}
use Rattle.weave.specs.Calls.{Call, ties, back, refused, number, good_row, call_number, turned, turned_at, place, told, tied_so}
use Rattle.lent.specs.Bits.{bit, bits_of}
use Rattle.lent.proofs.Bits.{bit_at}
use Rattle.desks.specs.declared.Which.{Which}
use Rattle.desks.specs.declared.Which.TheVariants.{Threading, Treadling}
use Rattle.desks.specs.Desks.{draft_in, desk_in}
use Rattle.desks.specs.Memory.{shafts_at, treadles_at, undoable_at, ties_at, ties_room, limit_at, words_at, desk_of, limits_of, tie_changed, row_changed, undone, Sound, row_call, changed, next_words}
use Rattle.desks.specs.Keepers.{tells, answer, Replied}
use Rattle.desks.proofs.Parts.{get_or_words}
use Rattle.desks.proofs.Ties.{bits_at}
use Rattle.desks.proofs.Told.{desk_tie_changed}
use Rattle.desks.proofs.Sounds.{sound_tie_changed}
use Rattle.desks.proofs.Keeps.{past_long, alike_tie_changed}

-- of a treadle that there is, its shafts
pub lifted_by : (m : List ℕ) (t : ℕ) → Sound m → t < get_or m treadles_at 0 → get_or (desk_of m).now.tied t [] ≡ bits_of (get_or m shafts_at 0) (get_or m (ties_at + t) 0)
unfolding desk_of desk_in draft_in
lifted_by m t h lt =
    let lw : length (words_at ties_at ties_room m) ≡ ties_room = length-take-le ties_room (drop ties_at m) (simp length-drop (omega (arith, h.long))) in
    bits_at (get_or m shafts_at 0) (get_or m treadles_at 0) t (words_at ties_at ties_room m) lt (omega (arith, h.treadles.1))
    ∙ ap (bits_of (get_or m shafts_at 0)) (get_or_words ties_at ties_room t m (omega (arith, h.treadles.1)))

pub lifts_bit : (m : List ℕ) (t s : ℕ) → Sound m → t < get_or m treadles_at 0 → s < get_or m shafts_at 0 → lifts (desk_of m).now.tied t s ≡ bit (get_or m (ties_at + t) 0) s
lifts_bit m t s h lt ls = ap (λ bs. get_or bs s false) (lifted_by m t h lt) ∙ bit_at (get_or m shafts_at 0) (get_or m (ties_at + t) 0) s ls

one_or_none : (x : ℕ) → x < 2 → pick (eqb x 1) 1 0 ≡ x
one_or_none zero lt = refl
one_or_none (suc zero) lt = refl
one_or_none (suc (suc x)) lt = absurd (omega arith)

-- whether a tie is lifted after it was turned
tie_lifted : (m : List ℕ) (t s : ℕ) → Sound m → t < get_or m treadles_at 0 → s < get_or m shafts_at 0 →
    get_or (tie_changed t s m) (ties_at + t) 0 / 2 ^ s % 2 ≡ pick (lifts (tied_so (desk_of m).now.tied t s) t s) 1 0
tie_lifted m t s h lt ls =
    let alike = alike_tie_changed t s m (omega (arith, h.long)) in
    sym (one_or_none (get_or (tie_changed t s m) (ties_at + t) 0 / 2 ^ s % 2) (omega arith))
    ∙ ap (λ b. pick b 1 0)
    (sym (lifts_bit (tie_changed t s m) t s (sound_tie_changed t s m h lt ls) (omega (arith, alike.words treadles_at (omega arith))) (omega (arith, alike.words shafts_at (omega arith))))
    ∙ ap (λ d. lifts d.now.tied t s) (desk_tie_changed t s m h lt (omega (arith, h.shafts.1))))

-- a call that the stage can do is turned away just where its test fails
pub test : (a b c : Bool) (x y : ℕ) → a ≡ true → b ≡ c → pick a (pick b x y) 2 ≡ pick c x y
test a b c x y p q = ap (λ z. pick z (pick b x y) 2) p ∙ ap (λ z. pick z x y) q

module _ (can : ℕ → Bool) (m : List ℕ) where
  pub turned_away : (c : Call) (k : ℕ) → eqb k 0 ≡ false → turned_at (limits_of can m) (desk_of m) c ≡ k → Replied can m c (refused k (place c k)) m
  unfolding answer next_words
  turned_away c k z e =
      record {
        says = ap (λ b. pick b (tells (limits_of can m) (desk_of m) c) (refused k (place c k))) (sym z) ∙ ap (λ t. pick (eqb t 0) (tells (limits_of can m) (desk_of m) c) (refused t (place c t))) (sym e);
        leaves = ap (λ b. pick b (changed m c) m) (sym z) ∙ ap (λ t. pick (eqb t 0) (changed m c) m) (sym e);
      }

  pub taken_in : (c : Call) → turned_at (limits_of can m) (desk_of m) c ≡ 0 → Replied can m c (tells (limits_of can m) (desk_of m) c) (changed m c)
  unfolding answer next_words
  taken_in c e =
      record { says = ap (λ t. pick (eqb t 0) (tells (limits_of can m) (desk_of m) c) (refused t (place c t))) (sym e); leaves = ap (λ t. pick (eqb t 0) (changed m c) m) (sym e) }

  pub row_refused : (w : Which) (r : Row) → can (call_number (row_call w r)) ≡ true → good_row (get_or m (limit_at w) 0) r ≡ false → Replied can m (row_call w r) (refused 2 0) m
  unfolding turned call_number place
  row_refused Threading r q e = turned_away (row_call Threading r) 2 refl (test (can 0) (good_row (get_or m shafts_at 0) r) false 0 2 q e)
  row_refused Treadling r q e = turned_away (row_call Treadling r) 2 refl (test (can 1) (good_row (get_or m treadles_at 0) r) false 0 2 q e)

  pub row_taken : (w : Which) (r : Row) (x : ℕ) (n : List ℕ) → can (call_number (row_call w r)) ≡ true → good_row (get_or m (limit_at w) 0) r ≡ true → x ≡ long r → n ≡ row_changed w r m →
      Replied can m (row_call w r) (number x) n
  unfolding turned call_number tells told changed
  row_taken Threading r x n q e v is =
      let it = taken_in (row_call Threading r) (test (can 0) (good_row (get_or m shafts_at 0) r) true 0 2 q e) in record { says = ap number v ∙ it.says; leaves = is ∙ it.leaves }
  row_taken Treadling r x n q e v is =
      let it = taken_in (row_call Treadling r) (test (can 1) (good_row (get_or m treadles_at 0) r) true 0 2 q e) in record { says = ap number v ∙ it.says; leaves = is ∙ it.leaves }

  pub tie_refused : (t s : ℕ) → can (call_number (ties t s)) ≡ true → (get_or m treadles_at 0 ≤ t) ⊎ (get_or m shafts_at 0 ≤ s) → Replied can m (ties t s) (refused 2 0) m
  unfolding turned call_number place
  tie_refused t s q (inl le) =
      turned_away (ties t s) 2 refl (test (can 2) (ltb t (get_or m treadles_at 0) && ltb s (get_or m shafts_at 0)) false 0 2 q (and_left (ltb t (get_or m treadles_at 0)) (ltb s (get_or m shafts_at 0)) (le-ltb t (get_or m treadles_at 0) le)))
  tie_refused t s q (inr le) =
      turned_away (ties t s) 2 refl (test (can 2) (ltb t (get_or m treadles_at 0) && ltb s (get_or m shafts_at 0)) false 0 2 q (and_right (ltb t (get_or m treadles_at 0)) (ltb s (get_or m shafts_at 0)) (le-ltb s (get_or m shafts_at 0) le)))

  pub tie_taken : (t s x : ℕ) (n : List ℕ) → can (call_number (ties t s)) ≡ true → Sound m → t < get_or m treadles_at 0 → s < get_or m shafts_at 0 →
      x ≡ get_or n (ties_at + t) 0 / 2 ^ s % 2 → n ≡ tie_changed t s m → Replied can m (ties t s) (number x) n
  unfolding turned call_number tells told changed
  tie_taken t s x n q h lt ls v is =
      let it = taken_in (ties t s) (test (can 2) (ltb t (get_or m treadles_at 0) && ltb s (get_or m shafts_at 0)) true 0 2 q
      (and_from (ltb t (get_or m treadles_at 0)) (ltb s (get_or m shafts_at 0)) (lt-ltb t (get_or m treadles_at 0) lt) (lt-ltb s (get_or m shafts_at 0) ls))) in
      record { says = ap number (v ∙ ap (λ y. get_or y (ties_at + t) 0 / 2 ^ s % 2) is ∙ tie_lifted m t s h lt ls) ∙ it.says; leaves = is ∙ it.leaves }

  pub back_refused : can (call_number back) ≡ true → Sound m → get_or m undoable_at 0 ≡ 0 → Replied can m back (refused 6 0) m
  unfolding turned call_number place
  back_refused q h e = turned_away back 6 refl (test (can 3) (eqb (length (desk_of m).past) 0) true 6 0 q (eq-eqb (length (desk_of m).past) 0 (past_long m h ∙ e)))

  pub back_taken : (x : ℕ) (n : List ℕ) → can (call_number back) ≡ true → Sound m → 0 < get_or m undoable_at 0 → x ≡ get_or m undoable_at 0 - 1 → n ≡ undone m → Replied can m back (number x) n
  unfolding turned call_number tells told changed
  back_taken x n q h lt v is =
      let it = taken_in back (test (can 3) (eqb (length (desk_of m).past) 0) false 6 0 q (ne_eqb (length (desk_of m).past) 0 (λ z. omega (arith, past_long m h)))) in
      record { says = ap number (v ∙ ap (λ y. y - 1) (sym (past_long m h))) ∙ it.says; leaves = is ∙ it.leaves }
