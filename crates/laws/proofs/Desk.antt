-- What calls leave of a desk. Assumes nothing.
use Rattle.std.proofs.Common.{◌≡◌, ℕ, zero, suc, ◌-◌, ◌<◌, true, List, ◌∷◌, length, take, ap, ◌∙◌, arith}
use lib.Dec.{eqb-suc-zero}
use Rattle.std.proofs.lemmas.Bool.{ne_eqb, eq-eqb, false≢true}
use Rattle.weave.specs.Cloth.{Draft}
use Rattle.weave.specs.Calls.{Limits, Desk, Call, threads, treadles, ties, back, cell, part, floats, fewest, hangs, garbled, call_number, turned, turned_at, after, draft_after, past_after}
use Rattle.weave.specs.Promise.{TurnedAway, Undone, does}

pub turned_away : TurnedAway
unfolding TurnedAway
turned_away l d c h = rw (ne_eqb (turned_at l d c) 0 (λ e. omega arith))

-- a call that is not turned away leaves what the tables say
pub after_done : (l : Limits) (d : Desk) (c : Call) → turned_at l d c ≡ 0 → after l d c ≡ record { now = draft_after d c; past = past_after l d c }
after_done l d c h = rw (eq-eqb (turned_at l d c) 0 h)

take_pos : (n : ℕ) (x : Draft) (xs : List Draft) → 0 < n → take n (x ∷ xs) ≡ x ∷ take (n - 1) xs
take_pos zero x xs h = absurd (omega arith)
take_pos (suc n) x xs h = let e : suc n - 1 ≡ n = omega arith in rw e

past_done : (l : Limits) (d : Desk) (c : Call) → does c ≡ true → 0 < l.undos → past_after l d c ≡ d.now ∷ take (l.undos - 1) d.past
unfolding does past_after
past_done l d (threads r) e h = take_pos l.undos d.now d.past h
past_done l d (treadles r) e h = take_pos l.undos d.now d.past h
past_done l d (ties t s) e h = take_pos l.undos d.now d.past h
past_done l d back e h = absurd (false≢true e)
past_done l d (cell r c) e h = absurd (false≢true e)
past_done l d (part r c n) e h = absurd (false≢true e)
past_done l d (floats k) e h = absurd (false≢true e)
past_done l d fewest e h = absurd (false≢true e)
past_done l d hangs e h = absurd (false≢true e)
past_done l d (garbled n) e h = absurd (false≢true e)

back_can : (l : Limits) (d : Desk) (x : Draft) (xs : List Draft) → l.calls_can 3 ≡ true → d.past ≡ x ∷ xs → turned_at l d back ≡ 0
unfolding turned call_number
back_can l d x xs h e = rw (h, e, eqb-suc-zero (length xs))

back_to : (l : Limits) (d : Desk) (x : Draft) (xs : List Draft) → l.calls_can 3 ≡ true → d.past ≡ x ∷ xs → (after l d back).now ≡ x
unfolding draft_after
back_to l d x xs h e = ap (λ (f : Desk). f.now) (after_done l d back (back_can l d x xs h e)) ∙ rw e

pub undone : Undone
unfolding Undone
undone l d c reached u does_it can ok =
    let e : (after l d c).past ≡ d.now ∷ take (l.undos - 1) d.past = ap (λ (f : Desk). f.past) (after_done l d c ok) ∙ past_done l d c does_it u in
    (back_can l (after l d c) d.now (take (l.undos - 1) d.past) can e, back_to l (after l d c) d.now (take (l.undos - 1) d.past) can e)
