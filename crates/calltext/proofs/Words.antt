-- Words, one after the other.
use Rattle.std.proofs.Common.{◌≡◌, ℕ, Bool, true, false, cond, eqb, List, [], ◌∷◌, ◌++◌, length, drop, refl, ap}
use Rattle.std.proofs.lemmas.Bool.{and_parts, eqb-true, eq-eqb, false≢true}
use Rattle.encoding.specs.declared.kinds.CallKind.{CallKind}
use Rattle.calltext.specs.Lines.{spelled, begins, worded, no_word, word_in}

eqb_same : (n : ℕ) → eqb n n ≡ true
eqb_same n = eq-eqb n n refl

begins_front : (ps rest : List ℕ) → begins ps (ps ++ rest) ≡ true
unfolding begins
begins_front [] rest = refl
begins_front (p ∷ ps) rest = rw (eqb_same p) (begins_front ps rest)

pub begins_is : (ps cs : List ℕ) → begins ps cs ≡ true → cs ≡ ps ++ drop (length ps) cs
unfolding begins
begins_is [] cs h = refl
begins_is (p ∷ ps) [] h = absurd (false≢true h)
begins_is (p ∷ ps) (c ∷ cs) h =
    let q = and_parts (eqb p c) (begins ps cs) h in
    rw (eqb-true p c q.0) (ap (λ l. c ∷ l) (begins_is ps cs q.1))

front_drop : (ps rest : List ℕ) → drop (length ps) (ps ++ rest) ≡ rest
front_drop [] rest = refl
front_drop (p ∷ ps) rest = front_drop ps rest

-- a word that a text begins with
pub word_here : (w : CallKind) (ws : List CallKind) (cs rest : List ℕ) → cs ≡ spelled w ++ rest → word_in (w ∷ ws) cs ≡ worded w rest
unfolding word_in
word_here w ws cs rest e = rw (e, begins_front (spelled w) rest) (ap (worded w) (front_drop (spelled w) rest))

-- a word that it does not begin with
pub word_not : (w : CallKind) (ws : List CallKind) (cs : List ℕ) → ((rest : List ℕ) → cs ≡ spelled w ++ rest → ⊥) → word_in (w ∷ ws) cs ≡ word_in ws cs
unfolding word_in
word_not w ws cs h = go (begins (spelled w) cs) refl
  where
    go : (b : Bool) → begins (spelled w) cs ≡ b → cond b (worded w (drop (length (spelled w)) cs)) (word_in ws cs) ≡ word_in ws cs
    go true e = absurd (h (drop (length (spelled w)) cs) (begins_is (spelled w) cs e))
    go false e = refl

pub word_none : (cs : List ℕ) → word_in [] cs ≡ no_word
unfolding word_in
word_none cs = refl
