-- What is answered to calls that change nothing, in words.
use Rattle.std.proofs.Common.{◌≡◌, ℕ, ◌<◌, ◌≤◌, Bool, true, false, ltb, leb, List, get_or, sym, refl, ap, ◌∙◌, ap₂}
use Rattle.std.proofs.lemmas.Bool.{le-leb, lt-leb, lt-ltb, le-ltb}
use Rattle.weave.specs.Rows.{pick, long, below}
use Rattle.weave.specs.Cloth.{warp_over, shafts_needed, treadles_needed, HangsTogether}
use Rattle.weave.specs.Calls.{cell, part, floats, fewest, hangs, garbled, refused, number, two, cells, together, over_all, call_number, turned, place, cells_of, longest, told, may_say}
use Rattle.weave.proofs.Rows.{long_some}
use Rattle.weave.proofs.Sound.{good_below, good_some}
use Rattle.encoding.specs.Answers.{bits, answer_bytes}
use Rattle.encoding.proofs.Answers.{narrow_over}
use Rattle.lent.specs.Bits.{bit, bits_of}
use Rattle.layering.specs.Layers.{OverAll, Topmost}
use Rattle.layering.specs.Topmost.{layers_told}
use Rattle.layering.proofs.Topmost as layer
use Rattle.desks.specs.Memory.{shafts_at, treadles_at, desk_of, limits_of, Sound, changed}
use Rattle.desks.specs.Keepers.{tells, answer, Replied}
use Rattle.desks.proofs.Answered.{test, turned_away, taken_in}
use Rattle.desks.proofs.Shown.{threading_good, treadling_good}

-- bits in bytes and bits in sets are the same
pub bits_same : (n x : ℕ) → bits n x ≡ bits_of n x
unfolding bits
bits_same n x = sym (layer.same_listed (bit x) n x (λ i l. refl))

module _ (can : ℕ → Bool) (m : List ℕ) where
  pub garbled_refused : (p : ℕ) → Replied can m (garbled p) (refused 1 p) m
  unfolding turned call_number place
  garbled_refused p = turned_away can m (garbled p) 1 refl refl

  pub cell_told : can 4 ≡ true → (r c x : ℕ) → x ≡ pick (warp_over (desk_of m).now r c) 1 0 → Replied can m (cell r c) (number x) m
  unfolding turned call_number tells told changed
  cell_told q r c x e = let it = taken_in can m (cell r c) (ap (λ b. pick b 0 2) q) in record { says = ap number e ∙ it.says; leaves = it.leaves }

  pub part_refused : can 5 ≡ true → (r c n : ℕ) → 1024 < n → Replied can m (part r c n) (refused 2 0) m
  unfolding turned call_number place
  part_refused q r c n h = turned_away can m (part r c n) 2 refl (test (can 5) (leb n 1024) false 0 2 q (lt-leb n 1024 h))

  pub part_told : can 5 ≡ true → (r c n : ℕ) (bs : List Bool) → n ≤ 1024 → bs ≡ cells_of (desk_of m).now r c n → Replied can m (part r c n) (cells bs) m
  unfolding turned call_number tells told changed
  part_told q r c n bs h e =
      let it = taken_in can m (part r c n) (test (can 5) (leb n 1024) true 0 2 q (le-leb n 1024 h)) in record { says = ap cells e ∙ it.says; leaves = it.leaves }

  pub floats_refused : can 6 ≡ true → (k : ℕ) → 4 ≤ k → Replied can m (floats k) (refused 2 0) m
  unfolding turned call_number place
  floats_refused q k h = turned_away can m (floats k) 2 refl (test (can 6) (ltb k 4) false 0 2 q (le-ltb k 4 h))

  pub floats_told : can 6 ≡ true → (k x : ℕ) → k < 4 → x ≡ longest (desk_of m).now k → Replied can m (floats k) (number x) m
  unfolding turned call_number tells told changed
  floats_told q k x h e =
      let it = taken_in can m (floats k) (test (can 6) (ltb k 4) true 0 2 q (lt-ltb k 4 h)) in record { says = ap number e ∙ it.says; leaves = it.leaves }

  pub fewest_told : can 7 ≡ true → (x y : ℕ) → x ≡ shafts_needed (desk_of m).now → y ≡ treadles_needed (desk_of m).now → Replied can m fewest (two x y) m
  unfolding turned call_number tells told changed
  fewest_told q x y e f = let it = taken_in can m fewest (ap (λ b. pick b 0 2) q) in record { says = ap₂ two e f ∙ it.says; leaves = it.leaves }

  pub hangs_told : can 8 ≡ true → Replied can m hangs (layers_told (get_or m shafts_at 0) (get_or m treadles_at 0) (desk_of m).now) m
  unfolding turned call_number tells changed
  hangs_told q = taken_in can m hangs (ap (λ b. pick b 0 2) q)

  -- memory as calls leave it has rows that keep to its limits
  module _ (h : Sound m) where
    pub threading_below : below (get_or m shafts_at 0) (desk_of m).now.threading ≡ true
    threading_below = good_below (get_or m shafts_at 0) (desk_of m).now.threading (threading_good m h)

    pub treadling_below : below (get_or m treadles_at 0) (desk_of m).now.treadling ≡ true
    treadling_below = good_below (get_or m treadles_at 0) (desk_of m).now.treadling (treadling_good m h)

    some_ends : 0 < long (desk_of m).now.threading
    some_ends = long_some (desk_of m).now.threading (good_some (get_or m shafts_at 0) (desk_of m).now.threading (threading_good m h))

    some_picks : 0 < long (desk_of m).now.treadling
    some_picks = long_some (desk_of m).now.treadling (good_some (get_or m treadles_at 0) (desk_of m).now.treadling (treadling_good m h))

    -- what is told of layers may be said
    pub hangs_said : may_say (limits_of can m) (desk_of m) hangs (layers_told (get_or m shafts_at 0) (get_or m treadles_at 0) (desk_of m).now)
    hangs_said = layer.layers_said (limits_of can m) (desk_of m) h.shafts.1 h.treadles.1 threading_below treadling_below some_ends some_picks

    pub together_told : can 8 ≡ true → HangsTogether (desk_of m).now → Replied can m hangs together m
    together_told q hung =
        let it = hangs_told q in
        let e = layer.together_told (desk_of m).now (get_or m shafts_at 0) (get_or m treadles_at 0) h.shafts.1 h.treadles.1 threading_below treadling_below some_ends some_picks hung in
        record { says = e ∙ it.says; leaves = it.leaves }

    pub topmost_told : can 8 ≡ true → (ss ts : ℕ) → Topmost (desk_of m).now ss ts → Replied can m hangs (over_all (bits_of (get_or m shafts_at 0) ss) (bits_of (get_or m treadles_at 0) ts)) m
    topmost_told q ss ts top =
        let it = hangs_told q in
        let e = layer.topmost_told (desk_of m).now (get_or m shafts_at 0) (get_or m treadles_at 0) h.shafts.1 h.treadles.1 threading_below treadling_below some_ends some_picks ss ts top in
        record { says = e ∙ it.says; leaves = it.leaves }

    -- as bytes it is the same by sets of 64
    pub topmost_bytes : can 8 ≡ true → (ss ts : ℕ) → OverAll (desk_of m).now ss ts → Topmost (desk_of m).now ss ts →
        answer_bytes (over_all (bits 64 ss) (bits 64 ts)) ≡ answer_bytes (answer can m hangs)
    topmost_bytes q ss ts over top =
        narrow_over (get_or m shafts_at 0) (get_or m treadles_at 0) ss ts h.shafts.1 h.treadles.1 (over.shafts_below (get_or m shafts_at 0) threading_below)
        (over.treadles_below (get_or m treadles_at 0) treadling_below)
        ∙ ap answer_bytes (ap₂ over_all (bits_same (get_or m shafts_at 0) ss) (bits_same (get_or m treadles_at 0) ts) ∙ (topmost_told q ss ts top).says)
