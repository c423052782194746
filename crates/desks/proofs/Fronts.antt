-- A desk in the front of lent memory.
use Rattle.std.proofs.Common.{◌≡◌, ℕ, ◌-◌, Bool, true, List, ◌++◌, length, get_or, take, drop, sym, ap, ◌∙◌, subst, arith}
use Rattle.std.proofs.lemmas.List.{take_at, drop_at, length-append, get_or_append_left}
use Rattle.weave.specs.Calls.{Call}
use Rattle.weave.specs.Promise.{readable}
use Rattle.desks.specs.Memory.{undos_at, asked, Sound, next_words}
use Rattle.desks.specs.Keepers.{opened_words, in_range, front, behind, LentDesk}
use Rattle.desks.proofs.Keeps.{next_right}
use Rattle.desks.proofs.Opens.{opened_long, sound_in_range}

-- words in front of others, if they are as many as they ask for
module _ (k r : List ℕ) (long : length k ≡ asked (get_or k undos_at 0)) where
  joined_asks : get_or (k ++ r) undos_at 0 ≡ get_or k undos_at 0
  joined_asks = get_or_append_left k r 0 undos_at (omega arith)

  pub joined_front : front (k ++ r) ≡ k
  joined_front = ap (λ u. take (asked u) (k ++ r)) joined_asks ∙ take_at k r (asked (get_or k undos_at 0)) long

  pub joined_behind : behind (k ++ r) ≡ r
  joined_behind = ap (λ u. drop (asked u) (k ++ r)) joined_asks ∙ drop_at k r (asked (get_or k undos_at 0)) long

  pub joined_lent : Sound k → LentDesk (k ++ r)
  joined_lent h = record { room = omega (arith, joined_asks, length-append k r); sound = subst Sound (sym joined_front) h }

-- what opening leaves is a desk
pub opened_front : (s t u : ℕ) (r : List ℕ) → front (opened_words s t u ++ r) ≡ opened_words s t u
unfolding opened_words
opened_front s t u r = joined_front (opened_words s t u) r (opened_long s t u)

pub opened_behind : (s t u : ℕ) (r : List ℕ) → behind (opened_words s t u ++ r) ≡ r
unfolding opened_words
opened_behind s t u r = joined_behind (opened_words s t u) r (opened_long s t u)

pub opened_lent : (s t u : ℕ) (r : List ℕ) → in_range s t u ≡ true → LentDesk (opened_words s t u ++ r)
opened_lent s t u r ok = let h = sound_in_range s t u ok in joined_lent (opened_words s t u) r h.long h

-- what a call leaves in the front is a desk again, and the rest lies behind it as before
pub record Called (can : ℕ → Bool) (m : List ℕ) (c : Call) (n : List ℕ) : Type 0 where
  pub front_is : front n ≡ next_words can (front m) c
  pub behind_is : behind n ≡ behind m
  pub lent : LentDesk n

pub called : (can : ℕ → Bool) (m n : List ℕ) (c : Call) → LentDesk m → readable c ≡ true → n ≡ next_words can (front m) c ++ behind m → Called can m c n
called can m n c h q e =
    let k = next_words can (front m) c in
    let sound : Sound k = (next_right can (front m) h.sound c q).sound in
    record {
      front_is = ap front e ∙ joined_front k (behind m) sound.long;
      behind_is = ap behind e ∙ joined_behind k (behind m) sound.long;
      lent = subst LentDesk (sym e) (joined_lent k (behind m) sound.long sound);
    }

-- the front as it is lent, the first k words
front_cut : (m : List ℕ) (k : ℕ) → k ≡ asked (get_or m undos_at 0) → take (k - 0) m ≡ front m
front_cut m k e = let z : k - 0 ≡ asked (get_or m undos_at 0) = omega arith in ap (λ n. take n m) z

pub cut_sound : (m : List ℕ) (k : ℕ) → LentDesk m → k ≡ asked (get_or m undos_at 0) → Sound (take (k - 0) m)
cut_sound m k h e = subst Sound (sym (front_cut m k e)) h.sound

-- a call on the front that was lent for it
pub cut_called : (can : ℕ → Bool) (m ys : List ℕ) (k : ℕ) (c : Call) → LentDesk m → readable c ≡ true → k ≡ asked (get_or m undos_at 0) → ys ≡ next_words can (take (k - 0) m) c → Called can m c (ys ++ drop k m)
cut_called can m ys k c h q e is =
    called can m (ys ++ drop k m) c h q (λ i. (is ∙ ap (λ f. next_words can f c) (front_cut m k e)) i ++ drop (e i) m)
