-- Tokens written one at a time.
use Rattle.std.proofs.Common.{◌≡◌, ℕ, ◌+◌, ◌<◌, ◌≤◌, List, ◌++◌, length, get_or, drop, sym, refl, ap, ◌∙◌, append_assoc}
use Rattle.std.proofs.lemmas.List.{append-nil, drop_more, drop_all}
use Rattle.tokens.specs.declared.Token.{Token}
use Rattle.tokens.specs.declared.Token.TheVariants.{Number}
use Rattle.tokens.specs.Tokens.{token_text, gap, text_on}

-- the next token, and what stands before it
text_step : (t : Token) (ts : List Token) (i : ℕ) → i < length ts →
    text_on t (drop i ts) ≡ gap t (get_or ts i (Number 0)) ++ (token_text (get_or ts i (Number 0)) ++ text_on (get_or ts i (Number 0)) (drop (i + 1) ts))
unfolding text_on
text_step t ts i h = rw (drop_more ts i (Number 0) h) refl

module _ (t : Token) (ts : List Token) (i : ℕ) (whole written : List ℕ) where
  pub text_more : i < length ts → written ++ text_on t (drop i ts) ≡ whole →
      (written ++ (gap t (get_or ts i (Number 0)) ++ token_text (get_or ts i (Number 0)))) ++ text_on (get_or ts i (Number 0)) (drop (i + 1) ts) ≡ whole
  text_more h e = simp append_assoc (ap (λ l. written ++ l) (sym (text_step t ts i h)) ∙ e)

  pub text_end : length ts ≤ i → written ++ text_on t (drop i ts) ≡ whole → written ≡ whole
  unfolding text_on
  text_end h e = sym (append-nil written) ∙ (ap (λ l. written ++ text_on t l) (sym (drop_all i ts h)) ∙ e)
