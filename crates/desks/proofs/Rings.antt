-- Slots that go round: one that is written anew is none in which a draft still lies.
use Rattle.std.proofs.Common.{◌≡◌, ℕ, zero, suc, ◌+◌, ◌<◌, ◌≤◌, Bool, true, false, eqb, ◌≢◌, ◌⊎◌, List, [], ◌∷◌, map, length, take, sym, refl, ap, ◌∙◌, inl, inr, arith, eqb-true}
use borrow.Author.Tests.{eqb-false}
use Rattle.weave.specs.Rows.{pick}
use Rattle.desks.specs.declared.Which.{Which}
use Rattle.desks.specs.Desks.{slot_after, slot_before, Place, before, places}

-- going back from slot a comes to y after d steps
abbrev pub Far : ℕ → ℕ → ℕ → ℕ → Type 0
Far last a y d = (a ≡ y + d) ⊎ (a + suc last ≡ y + d)

far_back : (last a y d : ℕ) → y ≤ last → Far last a y (suc d) → Far last (slot_before last a) y d
far_back last zero y d le (inl e) = inl (omega arith)
far_back last zero y d le (inr e) = inl (omega arith)
far_back last (suc a) y d le (inl e) = inl (omega arith)
far_back last (suc a) y d le (inr e) = inr (omega arith)

far_apart : (last a y d : ℕ) → 0 < d → d ≤ last → Far last a y d → a ≢ y
far_apart last a y d p le (inl e) q = omega arith
far_apart last a y d p le (inr e) q = omega arith

pub before_in : (last a : ℕ) → a ≤ last → slot_before last a ≤ last
before_in last zero le = omega arith
before_in last (suc a) le = omega arith

pub far_start : (last a : ℕ) → a ≤ last → Far last a (slot_after last a) last
far_start last a le =
    let P : Bool → Type 0 = λ b. eqb a last ≡ b → Far last a (pick b 0 (suc a)) last in
    (elim (eqb a last) as P [ true ↦ λ h. inl (omega (arith, eqb-true a last h)) | false ↦ λ h. inr (omega arith) ]) refl

pub after_in : (last a : ℕ) → a ≤ last → slot_after last a ≤ last
after_in last a le =
    let P : Bool → Type 0 = λ b. eqb a last ≡ b → pick b 0 (suc a) ≤ last in
    (elim (eqb a last) as P [ true ↦ λ h. omega arith | false ↦ λ h. omega (arith, eqb-false a last h) ]) refl

pub before_after : (last a : ℕ) → a ≤ last → slot_before last (slot_after last a) ≡ a
before_after last a le =
    let P : Bool → Type 0 = λ b. eqb a last ≡ b → slot_before last (pick b 0 (suc a)) ≡ a in
    (elim (eqb a last) as P [ true ↦ λ h. sym (eqb-true a last h) | false ↦ λ h. refl ]) refl

-- as many places as the log is long
pub length_places : (last : ℕ) (p : Place) (es : List ℕ) → length (places last p es) ≡ length es
unfolding places
length_places last p [] = refl
length_places last p (e ∷ es) = ap suc (length_places last (before last p e) es)

pub places_take : (last n : ℕ) (p : Place) (es : List ℕ) → places last p (take n es) ≡ take n (places last p es)
unfolding places
places_take last zero p es = refl
places_take last (suc n) p [] = refl
places_take last (suc n) p (e ∷ es) = ap (λ ps. before last p e ∷ ps) (places_take last n (before last p e) es)

-- what is read off each place stays, if it stays for those with w in another slot than y, and no more places are looked at than there are other slots
module _ {X : Type 0} (last y : ℕ) (in_it : y ≤ last) (w : Which)
    (goes : (p : Place) (e : ℕ) → ((before last p e).slot w ≡ p.slot w) ⊎ ((before last p e).slot w ≡ slot_before last (p.slot w)))
    (f g : Place → X) (same : (p : Place) → p.slot w ≢ y → f p ≡ g p) where
  pub kept_apart : (es : List ℕ) (p : Place) (d : ℕ) → length es < d → d ≤ last → Far last (p.slot w) y d → map f (p ∷ places last p es) ≡ map g (p ∷ places last p es)
  unfolding places
  kept_apart [] p d lt le far = ap (λ x. x ∷ []) (same p (far_apart last (p.slot w) y d (omega arith) le far))
  kept_apart (e ∷ es) p zero lt le far = absurd (omega arith)
  kept_apart (e ∷ es) p (suc d) lt le far =
      let here : f p ≡ g p = same p (far_apart last (p.slot w) y (suc d) (omega arith) le far) in
      let rest : map f (before last p e ∷ places last (before last p e) es) ≡ map g (before last p e ∷ places last (before last p e) es) =
      elim (goes p e) [
        | inl q ↦ kept_apart es (before last p e) (suc d) (omega arith) le (rw q far)
        | inr q ↦ kept_apart es (before last p e) d (omega arith) (omega arith) (rw q (far_back last (p.slot w) y d in_it far))
      ] in
      ap (λ x. x ∷ map f (before last p e ∷ places last (before last p e) es)) here ∙ ap (λ xs. g p ∷ xs) rest
