-- Every answer is right for the desk that the calls left, and a refusal keeps the memory.
use Rattle.std.proofs.Common.{◌≡◌, ℕ, ◌<◌, Bool, true, false, eqb, List, [], ◌∷◌, ◌++◌, sym, refl, ap, ◌∙◌, subst, arith}
use Rattle.std.proofs.lemmas.Bool.{and_parts, and_from, ne_eqb}
use Rattle.weave.specs.Rows.{pick}
use Rattle.weave.specs.Calls.{Call, threads, treadles, ties, back, cell, part, floats, fewest, hangs, garbled, refused, Limits, call_number, turned, turned_at, place, told, may_say, right_if, right, new_desk}
use Rattle.weave.specs.Promise.{GoodLimits, all_readable, Memory, all_right, Right, ran, left_by, RefusalKeeps}
use Rattle.desks.specs.Memory.{desk_of, limits_of, Sound, changed, next_words}
use Rattle.desks.specs.Keepers.{opened_words, tells, answer, keeper}
use Rattle.desks.proofs.Keeps.{Alike, next_right, limits_by, alike_same, alike_trans}
use Rattle.desks.proofs.Opens.{opened_sound, opened_desk}
use Rattle.desks.proofs.Asked.{hangs_said}

abbrev pub mem : List ℕ → Memory
mem m = record { words = m }

never : {A : Type 0} → false ≡ true → A
never e = absurd (let z : ◌≡◌ {A = ℕ} 0 1 = cc in omega arith)

pub opened_good : (l : Limits) → GoodLimits l → Sound (opened_words l.shafts l.treadles l.undos)
opened_good l good = opened_sound l.shafts l.treadles l.undos good.0 good.1 good.2 good.3 good.4

module _ (can : ℕ → Bool) where
  -- what is told may be said
  said : (m : List ℕ) (c : Call) → Sound m → eqb (turned_at (limits_of can m) (desk_of m) c) 0 ≡ true → may_say (limits_of can m) (desk_of m) c (tells (limits_of can m) (desk_of m) c)
  unfolding may_say tells told turned call_number
  said m (threads r) h e = refl
  said m (treadles r) h e = refl
  said m (ties t s) h e = refl
  said m back h e = refl
  said m (cell r c) h e = refl
  said m (part r c n) h e = refl
  said m (floats k) h e = refl
  said m fewest h e = refl
  said m hangs h e = hangs_said can m h
  said m (garbled n) h e = never e

  right_now : (m : List ℕ) (c : Call) → Sound m → right (limits_of can m) (desk_of m) c (answer can m c)
  unfolding answer right_if
  right_now m c h =
      let l = limits_of can m in
      let d = desk_of m in
      let t = turned_at l d c in
      let P : Bool → Type 0 = λ b. eqb t 0 ≡ b → right_if b l d c (pick b (tells l d c) (refused t (place c t))) in
      (elim (eqb t 0) as P [ true ↦ λ e. said m c h e | false ↦ λ e. refl ]) refl

  all_kept : (cs : List Call) (m : List ℕ) → Sound m → all_readable cs ≡ true → all_right (keeper can) (limits_of can m) (mem m) (desk_of m) cs
  unfolding all_right all_readable
  all_kept [] m h r = 0
  all_kept (c ∷ cs) m h r =
      let q = and_parts _ _ r in
      let step = next_right can m h c q.0 in
      let n = next_words can m c in
      let rest : all_right (keeper can) (limits_of can n) (mem n) (desk_of n) cs = all_kept cs n step.sound q.1 in (
        right_now m c h,
        subst (λ d. all_right (keeper can) (limits_of can m) (mem n) d cs) step.desk
            (subst (λ l. all_right (keeper can) l (mem n) (desk_of n) cs) (limits_by can m n step.alike) rest),
      )

  opened_limits : (l : Limits) → l.calls_can ≡ can → limits_of can (opened_words l.shafts l.treadles l.undos) ≡ l
  unfolding opened_words
  opened_limits l q = λ i. record { calls_can = sym q i; shafts = l.shafts; treadles = l.treadles; undos = l.undos }

  pub right_at : Right can (keeper can)
  unfolding Right
  right_at l cs good q r =
      let m = opened_words l.shafts l.treadles l.undos in
      subst (λ d. all_right (keeper can) l (mem m) d cs) (opened_desk l good.3)
      (subst (λ x. all_right (keeper can) x (mem m) (desk_of m) cs) (opened_limits l q) (all_kept cs m (opened_good l good) r))

  -- after a list of calls
  pub record Left (m : List ℕ) (cs : List Call) : Type 0 where
    pub sound : Sound (left_by (keeper can) (mem m) cs).words
    pub alike : Alike m (left_by (keeper can) (mem m) cs).words
    pub desk : desk_of (left_by (keeper can) (mem m) cs).words ≡ ran (limits_of can m) (desk_of m) cs

  pub left_right : (cs : List Call) (m : List ℕ) → Sound m → all_readable cs ≡ true → Left m cs
  unfolding left_by ran all_readable
  left_right [] m h r = record { sound = h; alike = alike_same m; desk = refl }
  left_right (c ∷ cs) m h r =
      let q = and_parts _ _ r in
      let step = next_right can m h c q.0 in
      let n = next_words can m c in
      let rest = left_right cs n step.sound q.1 in
      record {
        sound = rest.sound;
        alike = alike_trans m n (left_by (keeper can) (mem n) cs).words step.alike rest.alike;
        desk = rest.desk ∙ (λ i. ran (limits_by can m n step.alike i) (step.desk i) cs);
      }

  readable_front : (cs : List Call) (c : Call) → all_readable (cs ++ (c ∷ [])) ≡ true → all_readable cs ≡ true
  unfolding all_readable
  readable_front [] c r = refl
  readable_front (d ∷ cs) c r = let q = and_parts _ _ r in and_from _ _ q.0 (readable_front cs c q.1)

  stays : (m : List ℕ) (c : Call) → 0 < turned_at (limits_of can m) (desk_of m) c → next_words can m c ≡ m
  unfolding next_words
  stays m c lt =
      let t = turned_at (limits_of can m) (desk_of m) c in
      let e : eqb t 0 ≡ false = ne_eqb t 0 (λ z. omega arith) in
      ap (λ b. pick b (changed m c) m) e

  pub refusal_at : RefusalKeeps can (keeper can)
  unfolding RefusalKeeps
  refusal_at l cs c good q r lt =
      let m = opened_words l.shafts l.treadles l.undos in
      let left = left_right cs m (opened_good l good) (readable_front cs c r) in
      let n = (left_by (keeper can) (mem m) cs).words in
      let el : limits_of can m ≡ l = opened_limits l q in
      let same : turned_at (limits_of can n) (desk_of n) c ≡ turned_at l (ran l (new_desk l) cs) c =
      (λ i. turned_at (limits_by can m n left.alike i) (left.desk i) c)
      ∙ (λ i. turned_at (el i) (ran (el i) (opened_desk l good.3 i) cs) c) in
      ap mem (stays n c (rw same lt))
