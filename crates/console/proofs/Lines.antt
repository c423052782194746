-- Calls of a line, answered one after the other.
use Rattle.std.proofs.Common.{◌≡◌, ℕ, ◌+◌, ◌<◌, ◌≤◌, List, ◌++◌, map, length, get_or, drop, sym, refl, ap, ◌∙◌, append_assoc}
use Rattle.std.proofs.lemmas.List.{append-nil, drop_more, drop_all}
use Rattle.weave.specs.Calls.{Answer, refused}
use Rattle.session.specs.Session.{leaves}
use Rattle.calltext.specs.Lines.{Said, nothing, unreadable}
use Rattle.calltext.specs.Results.{AreCalls}
use Rattle.console.specs.Console.{told_of, line_text, after_calls, calls_text, after_line, answers_text}

-- one more call was answered
module _ {X : Type 0} (f : X → List ℕ) (xs : List X) (i : ℕ) (d : X) (m n bs : List ℕ) (h : i < length xs) (b : bs ≡ f (get_or xs i d)) (l : n ≡ leaves m bs) where
  pub after_more : (whole : List ℕ) → whole ≡ after_calls m (map f (drop i xs)) → whole ≡ after_calls n (map f (drop (i + 1) xs))
  unfolding after_calls
  after_more whole e =
      e ∙ (ap (λ (ys : List X). after_calls m (map f ys)) (drop_more xs i d h)
      ∙ (ap (λ (x : List ℕ). after_calls (leaves m x) (map f (drop (i + 1) xs))) (sym b)
      ∙ ap (λ (x : List ℕ). after_calls x (map f (drop (i + 1) xs))) (sym l)))

  pub text_more : (line : ℕ) (a : Answer) (whole now new : List ℕ) → whole ≡ now ++ calls_text m line (map f (drop i xs)) → a ≡ told_of m bs line → new ≡ now ++ line_text a →
      whole ≡ new ++ calls_text n line (map f (drop (i + 1) xs))
  unfolding calls_text
  text_more line a whole now new e t p =
      e ∙ (ap (λ (ys : List X). now ++ calls_text m line (map f ys)) (drop_more xs i d h)
      ∙ (ap (λ (x : List ℕ). now ++ (line_text (told_of m x line) ++ calls_text (leaves m x) line (map f (drop (i + 1) xs)))) (sym b)
      ∙ (ap (λ (x : Answer). now ++ (line_text x ++ calls_text (leaves m bs) line (map f (drop (i + 1) xs)))) (sym t)
      ∙ (ap (λ (x : List ℕ). now ++ (line_text a ++ calls_text x line (map f (drop (i + 1) xs)))) (sym l)
      ∙ (sym (append_assoc now (line_text a) (calls_text n line (map f (drop (i + 1) xs))))
      ∙ ap (λ (x : List ℕ). x ++ calls_text n line (map f (drop (i + 1) xs))) (sym p))))))

-- all were
pub after_all : {X : Type 0} (f : X → List ℕ) (xs : List X) (i : ℕ) (m whole : List ℕ) → length xs ≤ i → whole ≡ after_calls m (map f (drop i xs)) → m ≡ whole
unfolding after_calls
after_all {X = X} f xs i m whole h e = sym (e ∙ ap (λ (ys : List X). after_calls m (map f ys)) (drop_all i xs h))

pub text_all : {X : Type 0} (f : X → List ℕ) (xs : List X) (i line : ℕ) (m whole now : List ℕ) → length xs ≤ i → whole ≡ now ++ calls_text m line (map f (drop i xs)) → now ≡ whole
unfolding calls_text
text_all {X = X} f xs i line m whole now h e = sym (e ∙ (ap (λ (ys : List X). now ++ calls_text m line (map f ys)) (drop_all i xs h) ∙ append-nil now))

-- what a line leaves and what is told of it, by what it says
abbrev pub Answered : List ℕ → List ℕ → ℕ → Said → List ℕ → List ℕ → Type 0
Answered m old number x n new = (n ≡ after_line m x) × (new ≡ old ++ answers_text m number x)

pub nothing_said : (m old : List ℕ) (number : ℕ) (x : Said) → x ≡ nothing → Answered m old number x m old
unfolding after_line answers_text
nothing_said m old number x e = rw e (refl, sym (append-nil old))

pub calls_said : (m old : List ℕ) (number : ℕ) (x : Said) (bss : List (List ℕ)) (n new : List ℕ) → AreCalls x bss → (n ≡ after_calls m bss) × (new ≡ old ++ calls_text m number bss) → Answered m old number x n new
unfolding after_line answers_text
calls_said m old number x bss n new c p =
    rw c.so (p.0 ∙ ap (after_calls m) c.bytes, p.1 ∙ ap (λ (y : List (List ℕ)). old ++ calls_text m number y) c.bytes)

pub unreadable_said : (m old : List ℕ) (number : ℕ) (x : Said) (new : List ℕ) → x ≡ unreadable → new ≡ old ++ line_text (refused 1 number) → Answered m old number x m new
unfolding after_line answers_text
unreadable_said m old number x new e p = rw e (refl, p)
