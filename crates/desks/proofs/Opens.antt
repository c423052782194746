-- What opening leaves is sound, and tells a new desk.
use Rattle.std.proofs.Common.{◌≡◌, ℕ, zero, suc, ◌+◌, ◌-◌, ◌*◌, ◌^◌, ◌<◌, ◌≤◌, true, false, ◌&&◌, ltb, leb, [], ◌∷◌, ◌++◌, map, length, get_or, take, drop, replicate, sym, refl, ap, ◌∙◌, subst, arith, pow_pos}
use Rattle.std.proofs.lemmas.List.{drop_at, drop-drop, length-append, length-replicate, get_or_append_left, get_or-replicate, drop-append-le, take-append-le, drop-replicate, take-replicate}
use Rattle.std.proofs.lemmas.Bool.{and_parts, lt-ltb, ltb-true, leb-true}
use Rattle.weave.specs.Rows.{one, size, deep, long, below, some_each}
use Rattle.weave.specs.Calls.{Limits, good_row, new_desk}
use Rattle.weave.specs.Promise.{fields_in}
use Rattle.rows.specs.Words.{row_words, Small, Begins, row_of}
use Rattle.rows.proofs.Words.{words_long}
use Rattle.rows.proofs.Told.{row_told}
use Rattle.lent.specs.Bits.{bits_of}
use Rattle.lent.proofs.Bits.{no_bits}
use Rattle.desks.specs.declared.Which.{Which}
use Rattle.desks.specs.declared.Which.TheVariants.{Threading, Treadling}
use Rattle.desks.specs.Desks.{row_number, places, draft_in, desk_in}
use Rattle.desks.specs.Memory.{ties_at, ties_room, log_at, slots_at, row_room, row_part, asked, limit_at, slot_at, row_at, words_at, desk_of, Sound}
use Rattle.desks.specs.Keepers.{new_row, new_rows, new_head, opened_words, in_range}
use Rattle.desks.proofs.Told.{good_begun, take_past, row_few, slot_behind, slot_before_ties}

one_long : length (row_words (one 0)) ≡ 2
unfolding size
one_long = words_long (one 0)

pub row_long : length new_row ≡ row_part
row_long = length-append (row_words (one 0)) (replicate (row_part - 2) 0) ∙ omega (arith, one_long, length-replicate {A = ℕ} (row_part - 2) 0)

rows_drop : (n j : ℕ) → j ≤ n → drop (row_part * j) (new_rows n) ≡ new_rows (n - j)
unfolding new_rows
rows_drop n zero le = let e : n - 0 ≡ n = omega arith in rw e refl
rows_drop zero (suc j) le = absurd (omega arith)
rows_drop (suc n) (suc j) le =
    let e : row_part * suc j ≡ row_part + row_part * j = omega arith in
    let f : suc n - suc j ≡ n - j = omega arith in
    rw (e, f) (sym (drop-drop (row_part * j) row_part (new_row ++ new_rows n)) ∙ ap (drop (row_part * j)) (drop_at new_row (new_rows n) row_part row_long) ∙ rows_drop n j (omega arith))

-- each of them is the new row
row_there : (n j : ℕ) → j < n → drop (row_part * j) (new_rows n) ≡ new_row ++ new_rows (n - suc j)
unfolding new_rows
row_there n j lt = let e : n - j ≡ suc (n - suc j) = omega arith in rows_drop n j (omega arith) ∙ ap new_rows e

pub rows_long : (n : ℕ) → length (new_rows n) ≡ row_part * n
unfolding new_rows
rows_long zero = refl
rows_long (suc n) = length-append new_row (new_rows n) ∙ omega (arith, row_long, rows_long n)

pub small_one : Small (one 0)
unfolding some_each fields_in size deep long
small_one = record { some = refl; fields = refl; few = omega arith; shallow = omega arith; short = omega arith }

good_one : (b : ℕ) → 0 < b → good_row b (one 0) ≡ true
unfolding some_each below size deep long
good_one b lt = let e : ltb 0 b ≡ true = lt-ltb 0 b lt in rw e refl

module _ (s t u : ℕ) where
  pub head_long : length (new_head s t u) ≡ slots_at
  head_long = omega (arith, length-replicate {A = ℕ} (slots_at - 3) 0)

  behind_head : drop slots_at (opened_words s t u) ≡ new_rows (2 * (u + 1))
  unfolding opened_words
  behind_head = drop_at (new_head s t u) (new_rows (2 * (u + 1))) slots_at head_long

  pub opened_long : length (opened_words s t u) ≡ asked u
  unfolding opened_words
  opened_long = length-append (new_head s t u) (new_rows (2 * (u + 1))) ∙ omega (arith, head_long, rows_long (2 * (u + 1)))

  opened_begins : (w : Which) (k : ℕ) → k ≤ u → Begins (one 0) (words_at (row_at w k) row_room (opened_words s t u))
  opened_begins w k le =
      let j = 2 * k + row_number w in
      let rest = new_rows (2 * (u + 1) - suc j) in
      let place : row_at w k ≡ slots_at + row_part * j = omega arith in
      let all : drop (row_at w k) (opened_words s t u) ≡ new_row ++ rest =
      ap (λ x. drop x (opened_words s t u)) place
      ∙ sym (drop-drop (row_part * j) slots_at (opened_words s t u))
      ∙ ap (drop (row_part * j)) behind_head
      ∙ row_there (2 * (u + 1)) j (omega (arith, row_few w)) in
      record {
        small = small_one;
        rest = take (row_room - length (row_words (one 0))) (replicate (row_part - 2) 0);
        is = ap (take row_room) all ∙ take-append-le row_room new_row rest (omega (arith, row_long)) ∙ take_past row_room (row_words (one 0)) (replicate (row_part - 2) 0) (omega (arith, one_long));
      }

  zero_word : (i : ℕ) → 3 ≤ i → i < slots_at → get_or (opened_words s t u) i 0 ≡ 0
  unfolding opened_words
  zero_word i le lt =
      let e : i ≡ suc (suc (suc (i - 3))) = omega arith in
      ap (λ x. get_or (opened_words s t u) x 0) e
      ∙ get_or_append_left (replicate (slots_at - 3) 0) (new_rows (2 * (u + 1))) 0 (i - 3) (omega (arith, length-replicate {A = ℕ} (slots_at - 3) 0)) ∙ get_or-replicate (slots_at - 3) (i - 3) 0 0 (omega arith)

  no_ties : words_at ties_at ties_room (opened_words s t u) ≡ replicate ties_room 0
  unfolding opened_words
  no_ties =
      let rest = new_rows (2 * (u + 1)) in
      ap (take ties_room) (drop-append-le 5 (replicate (slots_at - 3) 0) rest (omega (arith, length-replicate {A = ℕ} (slots_at - 3) 0)) ∙ ap (λ x. x ++ rest) (drop-replicate 5 (slots_at - 3) 0))
      ∙ take-append-le ties_room (replicate (slots_at - ties_at) 0) rest (omega (arith, length-replicate {A = ℕ} (slots_at - ties_at) 0)) ∙ take-replicate ties_room (slots_at - ties_at) 0 (omega arith)

  good_limit : 0 < s → 0 < t → (w : Which) → good_row (get_or (opened_words s t u) (limit_at w) 0) (one 0) ≡ true
  unfolding opened_words
  good_limit s0 t0 Threading = good_one s s0
  good_limit s0 t0 Treadling = good_one t t0

  pub opened_sound : 0 < s → s ≤ 64 → 0 < t → t ≤ 64 → u ≤ 256 → Sound (opened_words s t u)
  unfolding opened_words
  opened_sound s0 s6 t0 t6 u2 =
      record {
        long = opened_long;
        shafts = (s0, s6);
        treadles = (t0, t6);
        undos = u2;
        undoable = omega (arith, zero_word 3 (omega arith) (omega arith));
        slots = λ w. omega (arith, zero_word (slot_at w) (omega (arith, slot_behind w)) (omega (arith, slot_before_ties w)));
        ties = λ j lt. subst (λ x. x < 2 ^ s) (sym (zero_word (ties_at + j) (omega arith) (omega arith))) (pow_pos s);
        entries = λ i lt two. absurd (omega (arith, zero_word (log_at + i) (omega arith) (omega arith)));
        rows = λ w k le. good_begun _ (one 0) _ (opened_begins w k le) (good_limit s0 t0 w);
      }

  pub sound_in_range : in_range s t u ≡ true → Sound (opened_words s t u)
  sound_in_range ok =
      let p = and_parts (ltb 0 s && leb s 64) ((ltb 0 t && leb t 64) && leb u 256) ok in
      let ps = and_parts (ltb 0 s) (leb s 64) p.0 in
      let pt = and_parts (ltb 0 t && leb t 64) (leb u 256) p.1 in
      let qt = and_parts (ltb 0 t) (leb t 64) pt.0 in
      opened_sound (ltb-true 0 s ps.0) (leb-true s 64 ps.1) (ltb-true 0 t qt.0) (leb-true t 64 qt.1) (leb-true u 256 pt.1)

no_lifts : (n k : ℕ) → map (bits_of n) (replicate k 0) ≡ replicate k (replicate n false)
no_lifts n zero = refl
no_lifts n (suc k) = λ i. no_bits n i ∷ no_lifts n k i

pub opened_desk : (l : Limits) → l.treadles ≤ 64 → desk_of (opened_words l.shafts l.treadles l.undos) ≡ new_desk l
unfolding desk_of desk_in draft_in places opened_words
opened_desk l le =
    let s = l.shafts in
    let t = l.treadles in
    let u = l.undos in
    let m = opened_words s t u in
    let row : (w : Which) → row_of 32 (words_at (row_at w 0) row_room m) ≡ one 0 = λ w. row_told (one 0) (words_at (row_at w 0) row_room m) (opened_begins s t u w 0 (omega arith)) in
    λ i. record {
      now = record {
        threading = row Threading i;
        tied = (ap (λ x. map (bits_of s) (take t x)) (no_ties s t u) ∙ ap (map (bits_of s)) (take-replicate t ties_room 0 le) ∙ no_lifts s t) i;
        treadling = row Treadling i;
      };
      past = [];
    }
