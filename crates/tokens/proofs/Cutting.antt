-- How a text is cut into tokens, one at a time.
use Rattle.std.proofs.Common.{◌≡◌, ℕ, zero, suc, ◌-◌, ◌<◌, ◌≤◌, true, false, List, [], ◌∷◌, ◌++◌, length, get_or, drop, sym, refl, inl, inr, ap, ◌∙◌, append_assoc, sub-one, arith}
use Rattle.std.proofs.lemmas.List.{append-nil}
use Rattle.std.proofs.lemmas.Bool.{cases_Bool}
use Rattle.tokens.specs.declared.Token.{Token}
use Rattle.tokens.specs.Tokens.{is_blank, past_blanks, taken, no_token, token_in, Cut, cut, uncut, before, more, tokens_in, tokens_of}

-- tokens before those of a cut
abbrev pub fronted : List Token → Cut → Cut
fronted xs (cut ts) = cut (xs ++ ts)
fronted xs uncut = uncut

-- found are the tokens of text up to left
pub record SoFar (text : List ℕ) (found : List Token) (left : List ℕ) : Type 0 where
  pub turns : ℕ
  pub enough : length left ≤ turns
  pub so : tokens_of text ≡ fronted found (tokens_in turns left)

pub so_none : (text : List ℕ) → SoFar text [] text
unfolding tokens_of
so_none text = record { turns = length text; enough = omega arith; so = whole (tokens_in (length text) text) }
  where
    whole : (x : Cut) → x ≡ fronted [] x
    whole (cut ts) = refl
    whole uncut = refl

fronted_before : (xs : List Token) (t : Token) (x : Cut) → fronted xs (before t x) ≡ fronted (xs ++ (t ∷ [])) x
unfolding before
fronted_before xs t (cut ts) = ap cut (sym (append_assoc xs (t ∷ []) ts))
fronted_before xs t uncut = refl

drop_shorter : (bs : List ℕ) → 0 < length bs → length (drop 1 bs) < length bs
drop_shorter [] h = absurd (omega arith)
drop_shorter (c ∷ cs) h = omega arith

tokens_blank : (k : ℕ) (bs : List ℕ) → 0 < length bs → length bs ≤ k → is_blank (get_or bs 0 0) ≡ true → tokens_in k bs ≡ tokens_in (k - 1) (drop 1 bs)
unfolding tokens_in
tokens_blank k [] h le e = absurd (omega arith)
tokens_blank zero (c ∷ cs) h le e = absurd (omega arith)
tokens_blank (suc k) (c ∷ cs) h le e = rw (e, sub-one) refl

tokens_word : (k : ℕ) (bs : List ℕ) → 0 < length bs → length bs ≤ k → is_blank (get_or bs 0 0) ≡ false → tokens_in k bs ≡ more (tokens_in (k - 1)) (token_in bs)
unfolding tokens_in
tokens_word k [] h le e = absurd (omega arith)
tokens_word zero (c ∷ cs) h le e = absurd (omega arith)
tokens_word (suc k) (c ∷ cs) h le e = rw (e, sub-one) refl

module _ (text : List ℕ) (found : List Token) (left : List ℕ) (h : SoFar text found left) (some : 0 < length left) where
  pub so_blank : is_blank (get_or left 0 0) ≡ true → SoFar text found (drop 1 left)
  so_blank e = record {
    turns = h.turns - 1;
    enough = omega (arith, h.enough, drop_shorter left some);
    so = h.so ∙ ap (fronted found) (tokens_blank h.turns left some h.enough e);
  }

  pub so_more : (t : Token) (rest : List ℕ) → is_blank (get_or left 0 0) ≡ false → taken t rest ≡ token_in left → length rest < length left → SoFar text (found ++ (t ∷ [])) rest
  unfolding more
  so_more t rest e q lt = record {
    turns = h.turns - 1;
    enough = omega (arith, h.enough);
    so = h.so ∙ (ap (fronted found) (tokens_word h.turns left some h.enough e ∙ ap (more (tokens_in (h.turns - 1))) (sym q)) ∙ fronted_before found t (tokens_in (h.turns - 1) rest));
  }

  pub so_unreadable : is_blank (get_or left 0 0) ≡ false → no_token ≡ token_in left → tokens_of text ≡ uncut
  unfolding more
  so_unreadable e q = h.so ∙ ap (fronted found) (tokens_word h.turns left some h.enough e ∙ ap (more (tokens_in (h.turns - 1))) (sym q))

pub so_past_blanks : (text : List ℕ) (found : List Token) (left : List ℕ) → SoFar text found left → SoFar text found (past_blanks left)
unfolding past_blanks
so_past_blanks text found [] h = h
so_past_blanks text found (c ∷ cs) h =
    elim (cases_Bool (is_blank c)) [
      | inl e ↦ rw e (so_past_blanks text found cs (so_blank text found (c ∷ cs) h (omega arith) e))
      | inr e ↦ rw e h
    ]

pub so_all : (text : List ℕ) (found : List Token) (left : List ℕ) → SoFar text found left → length left ≡ 0 → tokens_of text ≡ cut found
unfolding tokens_in
so_all text found [] h e = h.so ∙ ap cut (append-nil found)
so_all text found (c ∷ cs) h e = absurd (omega arith)
