-- What a change of slots, ties and log does to the desk that they tell.
use Rattle.std.proofs.Common.{◌≡◌, ℕ, zero, suc, ◌+◌, ◌*◌, ◌%◌, ◌<◌, ◌≤◌, Bool, ◌≢◌, ◌⊎◌, List, ◌∷◌, map, length, get_or, take, drop, sym, refl, ap, ◌∙◌, inl, inr, arith}
use Rattle.std.proofs.lemmas.List.{take-map, length-take}
use Rattle.std.proofs.lemmas.Nat.{div-mul-add, mod-mul-add}
use Rattle.weave.specs.Rows.{Row}
use Rattle.weave.specs.Cloth.{Draft}
use Rattle.weave.specs.Calls.{tied_so}
use Rattle.lent.specs.Bits.{bits_of}
use Rattle.desks.specs.declared.Which.{Which}
use Rattle.desks.specs.declared.Which.TheVariants.{Threading, Treadling}
use Rattle.desks.specs.Desks.{slot_after, slot_before, with_tie, with_slot, row_number, tie_number, Place, before, places, Slots, draft_in, desk_in, with_row}
use Rattle.desks.proofs.Rings.{Far, far_start, after_in, before_after, places_take, kept_apart}
use Rattle.desks.proofs.Ties.{tied_words, twice}

-- the other of the two rows
abbrev pub other : Which → Which
other Threading = Treadling
other Treadling = Threading

pub by_row : (P : Which → Type 0) (w : Which) → P w → P (other w) → (x : Which) → P x
by_row P Threading p q Threading = p
by_row P Threading p q Treadling = q
by_row P Treadling p q Threading = q
by_row P Treadling p q Treadling = p

pub slot_here : (w : Which) (k : ℕ) (f : Which → ℕ) → with_slot w k f w ≡ k
slot_here Threading k f = refl
slot_here Treadling k f = refl

pub slot_there : (w : Which) (k : ℕ) (f : Which → ℕ) → with_slot w k f (other w) ≡ f (other w)
slot_there Threading k f = refl
slot_there Treadling k f = refl

pub same_slots : (f g : Which → ℕ) → ((w : Which) → f w ≡ g w) → f ≡ g
same_slots f g h = λ i w. h w i

-- undone: the draft before, and those before it
pub desk_back : (v : Slots) (p : Place) (e : ℕ) (es : List ℕ) →
    desk_in v (before v.undos p e) es ≡ record { now = get_or (desk_in v p (e ∷ es)).past 0 (desk_in v p (e ∷ es)).now; past = drop 1 (desk_in v p (e ∷ es)).past }
unfolding desk_in places
desk_back v p e es = refl

-- a tie undone
pub before_tie : (last : ℕ) (p : Place) (t s : ℕ) → s < 64 → t < length p.ties →
    before last (record { slot = p.slot; ties = with_tie p.ties t s }) (tie_number t s) ≡ p
unfolding before
before_tie last p t s small lt =
    ap (λ ts. record { slot = p.slot; ties = ts })
    (ap (λ a. with_tie (with_tie p.ties t s) a ((t * 64 + s) % 64)) (div-mul-add t 64 s small)
    ∙ ap (λ b. with_tie (with_tie p.ties t s) t b) (mod-mul-add t 64 s small)
    ∙ twice p.ties t s lt)

-- the past after a change that can be undone, of which the log has e
past_more : (v : Slots) (p q : Place) (e : ℕ) (es : List ℕ) (n : ℕ) → before v.undos q e ≡ p →
    map (draft_in v) (places v.undos q (take n (e ∷ es))) ≡ take n (draft_in v p ∷ map (draft_in v) (places v.undos p es))
unfolding places
past_more v p q e es zero undone = refl
past_more v p q e es (suc n) undone =
    ap (λ x. draft_in v x ∷ map (draft_in v) (places v.undos x (take n es))) undone
    ∙ ap (λ ps. draft_in v p ∷ map (draft_in v) ps) (places_take v.undos n p es)
    ∙ ap (λ ds. draft_in v p ∷ ds) (sym (take-map (draft_in v) n (places v.undos p es)))

pub desk_tied : (v : Slots) (p : Place) (es : List ℕ) (t s : ℕ) → s < 64 → t < v.treadles → v.treadles ≤ length p.ties →
    desk_in v (record { slot = p.slot; ties = with_tie p.ties t s }) (take v.undos (tie_number t s ∷ es))
    ≡ record {
      now = record { threading = (desk_in v p es).now.threading; tied = tied_so (desk_in v p es).now.tied t s; treadling = (desk_in v p es).now.treadling };
      past = take v.undos ((desk_in v p es).now ∷ (desk_in v p es).past);
    }
unfolding desk_in draft_in
desk_tied v p es t s small lt le =
    let q : Place = record { slot = p.slot; ties = with_tie p.ties t s } in
    let now : List (List Bool) → Draft = λ x. record { threading = v.row_in Threading (p.slot Threading); tied = x; treadling = v.row_in Treadling (p.slot Treadling) } in
    ap (λ x. record { now = draft_in v q; past = x }) (past_more v p q (tie_number t s) es v.undos (before_tie v.undos p t s small (omega arith)))
    ∙ ap (λ x. record { now = now x; past = take v.undos (draft_in v p ∷ map (draft_in v) (places v.undos p es)) })
    (tied_words v.shafts v.treadles t s p.ties lt le)

-- undoing goes at most one slot back
goes_back : (last : ℕ) (w : Which) (p : Place) (e : ℕ) → ((before last p e).slot w ≡ p.slot w) ⊎ ((before last p e).slot w ≡ slot_before last (p.slot w))
unfolding before
goes_back last Threading p zero = inr refl
goes_back last Treadling p zero = inl refl
goes_back last Threading p (suc zero) = inl refl
goes_back last Treadling p (suc zero) = inr refl
goes_back last w p (suc (suc k)) = inl refl

-- a row in the next slot of its ring: the drafts still remembered stay
module _ (v : Slots) (rows : Which → ℕ → Row) (w : Which) (p : Place) (es : List ℕ)
    (le : p.slot w ≤ v.undos)
    (here : (k : ℕ) → k ≢ slot_after v.undos (p.slot w) → rows w k ≡ v.row_in w k)
    (there : (k : ℕ) → rows (other w) k ≡ v.row_in (other w) k) where
  abbrev next : ℕ
  next = slot_after v.undos (p.slot w)

  abbrev new_slots : Slots
  new_slots = record { shafts = v.shafts; treadles = v.treadles; undos = v.undos; row_in = rows }

  abbrev new_place : Place
  new_place = record { slot = with_slot w next p.slot; ties = p.ties }

  same_rows : (q : Place) → q.slot w ≢ next → (x : Which) → rows x (q.slot x) ≡ v.row_in x (q.slot x)
  same_rows q ne = by_row (λ x. rows x (q.slot x) ≡ v.row_in x (q.slot x)) w (here (q.slot w) ne) (there (q.slot (other w)))

  same_draft : (q : Place) → q.slot w ≢ next → draft_in new_slots q ≡ draft_in v q
  unfolding draft_in
  same_draft q ne =
      λ i. record { threading = same_rows q ne Threading i; tied = map (bits_of v.shafts) (take v.treadles q.ties); treadling = same_rows q ne Treadling i }

  turned_back : before v.undos new_place (row_number w) ≡ p
  unfolding before
  turned_back = going w le
    where
      going : (w : Which) → p.slot w ≤ v.undos → before v.undos (record { slot = with_slot w (slot_after v.undos (p.slot w)) p.slot; ties = p.ties }) (row_number w) ≡ p
      going Threading le = ap (λ f. record { slot = f; ties = p.ties }) (same_slots _ p.slot (by_row _ Threading (before_after v.undos (p.slot Threading) le) refl))
      going Treadling le = ap (λ f. record { slot = f; ties = p.ties }) (same_slots _ p.slot (by_row _ Treadling (before_after v.undos (p.slot Treadling) le) refl))

  past_after : (n : ℕ) → n ≤ v.undos → Far v.undos (p.slot w) next n →
      map (draft_in new_slots) (places v.undos new_place (take n (row_number w ∷ es))) ≡ take n (draft_in v p ∷ map (draft_in v) (places v.undos p es))
  unfolding places
  past_after zero few far = refl
  past_after (suc n) few far =
      ap (λ x. map (draft_in new_slots) (x ∷ places v.undos x (take n es))) turned_back
      ∙ kept_apart v.undos next (after_in v.undos (p.slot w) le) w (goes_back v.undos w) (draft_in new_slots) (draft_in v) same_draft (take n es) p (suc n) (simp length-take (omega arith)) few far
      ∙ ap (λ ps. draft_in v p ∷ map (draft_in v) ps) (places_take v.undos n p es)
      ∙ ap (λ ds. draft_in v p ∷ ds) (sym (take-map (draft_in v) n (places v.undos p es)))

  now_after : draft_in new_slots new_place ≡ with_row w (rows w next) (draft_in v p)
  unfolding draft_in
  now_after = going w there
    where
      going : (w : Which) → ((k : ℕ) → rows (other w) k ≡ v.row_in (other w) k) →
          draft_in new_slots (record { slot = with_slot w (slot_after v.undos (p.slot w)) p.slot; ties = p.ties }) ≡ with_row w (rows w (slot_after v.undos (p.slot w))) (draft_in v p)
      going Threading there =
          ap (λ r. record { threading = rows Threading (slot_after v.undos (p.slot Threading)); tied = map (bits_of v.shafts) (take v.treadles p.ties); treadling = r }) (there (p.slot Treadling))
      going Treadling there =
          ap (λ r. record { threading = r; tied = map (bits_of v.shafts) (take v.treadles p.ties); treadling = rows Treadling (slot_after v.undos (p.slot Treadling)) }) (there (p.slot Threading))

  pub desk_row : desk_in new_slots new_place (take v.undos (row_number w ∷ es))
      ≡ record { now = with_row w (rows w next) (desk_in v p es).now; past = take v.undos ((desk_in v p es).now ∷ (desk_in v p es).past) }
  unfolding desk_in
  desk_row = λ i. record { now = now_after i; past = past_after v.undos (omega arith) (far_start v.undos (p.slot w) le) i }
