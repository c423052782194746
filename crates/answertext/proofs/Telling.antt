-- Answers are read back from their text, so two that are different have different texts.
use Rattle.std.proofs.Common.{◌≡◌, ℕ, zero, suc, ◌+◌, ◌-◌, ◌<◌, ◌≤◌, Bool, true, false, cond, eqb, List, [], ◌∷◌, ◌++◌, map, length, get_or, drop, replicate, codes, decimal, sym, refl, ap, ◌∙◌, append_assoc, arith}
use Rattle.std.proofs.lemmas.List.{append-nil}
use Rattle.std.proofs.lemmas.Bool.{ltb-true, eq-eqb, ne_eqb}
use Rattle.std.specs.Char.{is_ascii_digit}
use Rattle.weave.specs.Calls.{Answer, refused, number, two, cells, together, over_all}
use Rattle.encoding.specs.Laws.{filled}
use Rattle.tokens.specs.Tokens.{Numbered, numbered, no_number, numeral_in}
use Rattle.tokens.proofs.Words.{number_back, decimal_starts, first_digit}
use Rattle.answertext.specs.Answers.{members, listed, named, cell_text, answer_text, OfDesk, TellsTheAnswer, FilledAlike}

-- numbers of four bytes
abbrev Small : List ℕ → Type 0
Small [] = Unit {0}
Small (n ∷ ns) = (n < 4294967296) × Small ns

-- numbers from k on, by the first of them
abbrev From : ℕ → List ℕ → Type 0
From k [] = Unit {0}
From k (n ∷ ns) = k ≤ n

from_less : (k : ℕ) (ns : List ℕ) → From (suc k) ns → From k ns
from_less k [] h = tt
from_less k (n ∷ ns) h = omega (arith, h)

members_from : (k : ℕ) (bs : List Bool) → From k (members k bs)
unfolding members
members_from k [] = tt
members_from k (true ∷ bs) = omega arith
members_from k (false ∷ bs) = from_less k (members (suc k) bs) (members_from (suc k) bs)

members_small : (k : ℕ) (bs : List Bool) → k + length bs ≤ 64 → Small (members k bs)
unfolding members
members_small k [] h = tt
members_small k (true ∷ bs) h = (omega (arith, h), members_small (suc k) bs (omega (arith, h)))
members_small k (false ∷ bs) h = members_small (suc k) bs (omega (arith, h))

members_few : (k : ℕ) (bs : List Bool) → length (members k bs) ≤ length bs
unfolding members
members_few k [] = omega arith
members_few k (true ∷ bs) = omega (arith, members_few (suc k) bs)
members_few k (false ∷ bs) = omega (arith, members_few (suc k) bs)

-- the set of n, from k on, that numbers are in
set_of : ℕ → ℕ → List ℕ → List Bool
set_of k zero ms = []
set_of k (suc n) [] = false ∷ set_of (suc k) n []
set_of k (suc n) (m ∷ ms) = cond (eqb k m) (true ∷ set_of (suc k) n ms) (false ∷ set_of (suc k) n (m ∷ ms))

set_not : (k n : ℕ) (ms : List ℕ) → From (suc k) ms → set_of k (suc n) ms ≡ false ∷ set_of (suc k) n ms
unfolding set_of
set_not k n [] h = refl
set_not k n (m ∷ ms) h = rw (ne_eqb k m (λ e. omega (arith, h))) refl

set_back : (k : ℕ) (bs : List Bool) → set_of k (length bs) (members k bs) ≡ bs
unfolding set_of members
set_back k [] = refl
set_back k (true ∷ bs) = rw (eq-eqb k k refl) (ap (λ l. true ∷ l) (set_back (suc k) bs))
set_back k (false ∷ bs) = set_not k (length bs) (members (suc k) bs) (members_from (suc k) bs) ∙ ap (λ l. false ∷ l) (set_back (suc k) bs)

-- numbers, each after a blank, and the text after them
data Found : Type 0 where
  found : List ℕ → List ℕ → Found

in_front : ℕ → Found → Found
in_front n (found ns cs) = found (n ∷ ns) cs

one_more : (List ℕ → Found) → Numbered → Found
one_more f (numbered n cs) = in_front n (f cs)
one_more f no_number = found [] []

numbers_in : ℕ → List ℕ → Found
numbers_in zero cs = found [] cs
numbers_in (suc k) cs = cond (is_ascii_digit (get_or cs 1 0)) (one_more (numbers_in k) (numeral_in (drop 1 cs))) (found [] cs)

-- numbers stop before it
abbrev Stops : List ℕ → Type 0
Stops cs = (is_ascii_digit (get_or cs 0 0) ≡ false) × (is_ascii_digit (get_or cs 1 0) ≡ false)

listed_ends : (ns cs : List ℕ) → Stops cs → is_ascii_digit (get_or (listed ns ++ cs) 0 0) ≡ false
unfolding listed
listed_ends [] cs h = h.0
listed_ends (n ∷ ns) cs h = refl

numbers_back : (ns cs : List ℕ) (k : ℕ) → Small ns → Stops cs → length ns ≤ k → numbers_in k (listed ns ++ cs) ≡ found ns cs
unfolding listed numbers_in one_more in_front
numbers_back [] cs zero f h le = refl
numbers_back [] cs (suc k) f h le = rw h.1 refl
numbers_back (n ∷ ns) cs zero f h le = absurd (omega arith)
numbers_back (n ∷ ns) cs (suc k) f h le =
    rw (append_assoc (decimal n) (listed ns) cs, first_digit (decimal n) (listed ns ++ cs) (decimal_starts n f.0), number_back n (listed ns ++ cs) f.0 (listed_ends ns cs h), numbers_back ns cs k f.1 h (omega (arith, le))) refl

-- the numbers after a word that has c for its first letter; the blank and the word take k bytes
named_in : ℕ → ℕ → List ℕ → Found
named_in c k cs = cond (eqb (get_or cs 1 0) c) (numbers_in 64 (drop k cs)) (found [] cs)

shafts_back : (ns cs : List ℕ) → Small ns → Stops cs → length ns ≤ 64 → eqb (get_or cs 1 0) 115 ≡ false → named_in 115 7 (named (codes "shafts") ns ++ cs) ≡ found ns cs
unfolding named_in named
shafts_back [] cs f h le e = rw e refl
shafts_back (n ∷ ns) cs f h le e = numbers_back (n ∷ ns) cs 64 f h le

treadles_back : (ns : List ℕ) → Small ns → length ns ≤ 64 → named_in 116 9 (named (codes "treadles") ns) ≡ found ns []
unfolding named_in named
treadles_back [] f le = refl
treadles_back (n ∷ ns) f le = ap (numbers_in 64) (sym (append-nil (listed (n ∷ ns)))) ∙ numbers_back (n ∷ ns) [] 64 f (refl, refl) le

treadles_stop : (ns : List ℕ) → Stops (named (codes "treadles") ns) × (eqb (get_or (named (codes "treadles") ns) 1 0) 115 ≡ false)
unfolding named
treadles_stop [] = ((refl, refl), refl)
treadles_stop (n ∷ ns) = ((refl, refl), refl)

-- an answer that is read, at a desk of s shafts and t treadles
value_of : Numbered → ℕ
value_of (numbered n cs) = n
value_of no_number = 0

numbers_answer : Numbered → Answer
numbers_answer (numbered n []) = number n
numbers_answer (numbered n (c ∷ cs)) = two n (value_of (numeral_in cs))
numbers_answer no_number = together

refusal_in : Numbered → Answer
refusal_in (numbered j cs) = refused j (value_of (numeral_in (drop 4 cs)))
refusal_in no_number = together

and_treadles : ℕ → List Bool → Found → Answer
and_treadles t ss (found ns cs) = over_all ss (set_of 0 t ns)

over_in : ℕ → ℕ → Found → Answer
over_in s t (found ns cs) = and_treadles t (set_of 0 s ns) (named_in 116 9 cs)

answer_in : ℕ → ℕ → List ℕ → Answer
answer_in s t cs =
    cond (is_ascii_digit (get_or cs 0 0)) (numbers_answer (numeral_in cs))
    (cond (eqb (get_or cs 0 0) 114) (refusal_in (numeral_in (drop 8 cs)))
    (cond (eqb (get_or cs 0 0) 121) together
    (cond (eqb (get_or cs 0 0) 111) (over_in s t (named_in 115 7 (drop 5 cs))) (cells (map (eqb 124) cs)))))

digit_first : (n : ℕ) (cs : List ℕ) (s t : ℕ) → n < 4294967296 → answer_in s t (decimal n ++ cs) ≡ numbers_answer (numeral_in (decimal n ++ cs))
unfolding answer_in
digit_first n cs s t h = rw (first_digit (decimal n) cs (decimal_starts n h)) refl

decimal_back : (n : ℕ) → n < 4294967296 → numeral_in (decimal n) ≡ numbered n []
decimal_back n h = ap numeral_in (sym (append-nil (decimal n))) ∙ number_back n [] h refl

cells_back : (bs : List Bool) → map (eqb 124) (map cell_text bs) ≡ bs
cells_back [] = refl
cells_back (true ∷ bs) = ap (λ l. true ∷ l) (cells_back bs)
cells_back (false ∷ bs) = ap (λ l. false ∷ l) (cells_back bs)

cells_read : (bs : List Bool) (s t : ℕ) → answer_in s t (map cell_text bs) ≡ cells (map (eqb 124) (map cell_text bs))
unfolding answer_in
cells_read [] s t = refl
cells_read (true ∷ bs) s t = refl
cells_read (false ∷ bs) s t = refl

over_back : (s t : ℕ) (ss ts : List Bool) → s ≤ 64 → t ≤ 64 → length ss ≡ s → length ts ≡ t → answer_in s t (answer_text (over_all ss ts)) ≡ over_all ss ts
unfolding answer_text answer_in over_in and_treadles
over_back s t ss ts hs ht es et =
    let q = treadles_stop (members 0 ts) in
    rw (
      shafts_back (members 0 ss) (named (codes "treadles") (members 0 ts)) (members_small 0 ss (omega arith)) q.0 (omega (arith, members_few 0 ss)) q.1,
      treadles_back (members 0 ts) (members_small 0 ts (omega arith)) (omega (arith, members_few 0 ts)),
      ← es,
      ← et,
      set_back 0 ss,
      set_back 0 ts,
    ) refl

answer_back : (s t : ℕ) (a : Answer) → s ≤ 64 → t ≤ 64 → OfDesk s t a → answer_in s t (answer_text a) ≡ a
unfolding answer_text answer_in numbers_answer refusal_in value_of
answer_back s t (refused j k) hs ht f =
    rw (number_back j (codes " at " ++ decimal k) (ltb-true j 4294967296 f.0) refl, decimal_back k (ltb-true k 4294967296 f.1)) refl
answer_back s t (number n) hs ht f =
    let h = ltb-true n 4294967296 f in
    ap (answer_in s t) (sym (append-nil (decimal n))) ∙ (digit_first n [] s t h ∙ ap numbers_answer (number_back n [] h refl))
answer_back s t (two m n) hs ht f =
    let h = ltb-true m 4294967296 f.0 in
    digit_first m (32 ∷ decimal n) s t h ∙ (ap numbers_answer (number_back m (32 ∷ decimal n) h refl) ∙ rw (decimal_back n (ltb-true n 4294967296 f.1)) refl)
answer_back s t (cells bs) hs ht f = cells_read bs s t ∙ ap cells (cells_back bs)
answer_back s t together hs ht f = refl
answer_back s t (over_all ss ts) hs ht f = over_back s t ss ts hs ht f.0 f.1

pub tells_the_answer : TellsTheAnswer
tells_the_answer s t a b hs ht f g e = sym (answer_back s t a hs ht f) ∙ (ap (answer_in s t) e ∙ answer_back s t b hs ht g)

-- what is not in a set has no text
members_none : (k n : ℕ) → members k (replicate n false) ≡ []
unfolding members
members_none k zero = refl
members_none k (suc n) = members_none (suc k) n

members_filled : (k n : ℕ) (bs : List Bool) → members k (bs ++ replicate n false) ≡ members k bs
unfolding members
members_filled k n [] = members_none k n
members_filled k n (true ∷ bs) = ap (λ l. k ∷ l) (members_filled (suc k) n bs)
members_filled k n (false ∷ bs) = members_filled (suc k) n bs

pub filled_alike : FilledAlike
unfolding filled answer_text
filled_alike (refused j k) = refl
filled_alike (number n) = refl
filled_alike (two m n) = refl
filled_alike (cells bs) = refl
filled_alike together = refl
filled_alike (over_all ss ts) = rw (members_filled 0 (64 - length ss) ss, members_filled 0 (64 - length ts) ts) refl
