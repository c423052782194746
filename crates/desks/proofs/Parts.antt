-- Parts of memory, where others were written.
use Rattle.std.proofs.Common.{◌≡◌, ℕ, ◌+◌, ◌-◌, ◌<◌, ◌≤◌, ◌⊎◌, List, ◌++◌, length, get_or, take, drop, set, sym, ap, ◌∙◌, subst, inl, inr, append_assoc, arith}
use lib.Seq.{take-set-lt}
use Rattle.std.proofs.lemmas.List.{take-take, take_at, drop_at, drop-drop, drop-take, length-take-le, length-append, length-drop, take-set-le, drop-set-lt, drop-set-add, get_or-take, get_or-drop}
use borrow.Rule.Slice.PartMut.{put_mid}
use Rattle.encoding.specs.Numbers.{placed}
use Rattle.desks.specs.Memory.{words_at}

-- nothing but k words from a on may differ
pub record Kept (a k : ℕ) (m n : List ℕ) : Type 0 where
  pub front : take a n ≡ take a m
  pub behind : drop (a + k) n ≡ drop (a + k) m

pub kept_before : (a k b j : ℕ) (m n : List ℕ) → Kept a k m n → b + j ≤ a → words_at b j n ≡ words_at b j m
kept_before a k b j m n h le =
    sym (drop-take b j n) ∙ ap (drop b) (sym (take-take (b + j) a n le) ∙ ap (take (b + j)) h.front ∙ take-take (b + j) a m le) ∙ drop-take b j m

pub kept_behind : (a k b : ℕ) (m n : List ℕ) → Kept a k m n → a + k ≤ b → drop b n ≡ drop b m
kept_behind a k b m n h le =
    let e : (a + k) + (b - (a + k)) ≡ b = omega arith in
    ap (λ x. drop x n) (sym e) ∙ sym (drop-drop (b - (a + k)) (a + k) n) ∙ ap (drop (b - (a + k))) h.behind ∙ drop-drop (b - (a + k)) (a + k) m ∙ ap (λ x. drop x m) e

pub kept_words : (a k b j : ℕ) (m n : List ℕ) → Kept a k m n → (b + j ≤ a) ⊎ (a + k ≤ b) → words_at b j n ≡ words_at b j m
kept_words a k b j m n h (inl le) = kept_before a k b j m n h le
kept_words a k b j m n h (inr le) = ap (take j) (kept_behind a k b m n h le)

pub get_or_words : (b j i : ℕ) (m : List ℕ) → i < j → get_or (words_at b j m) i 0 ≡ get_or m (b + i) 0
get_or_words b j i m lt = get_or-take j (drop b m) i 0 lt ∙ get_or-drop b m i 0

pub kept_word : (a k i : ℕ) (m n : List ℕ) → Kept a k m n → (i < a) ⊎ (a + k ≤ i) → get_or n i 0 ≡ get_or m i 0
kept_word a k i m n h (inl lt) = sym (get_or-take a n i 0 lt) ∙ ap (λ x. get_or x i 0) h.front ∙ get_or-take a m i 0 lt
kept_word a k i m n h (inr le) =
    let e : (a + k) + (i - (a + k)) ≡ i = omega arith in
    ap (λ x. get_or n x 0) (sym e) ∙ sym (get_or-drop (a + k) n (i - (a + k)) 0) ∙ ap (λ x. get_or x (i - (a + k)) 0) h.behind ∙ get_or-drop (a + k) m (i - (a + k)) 0 ∙ ap (λ x. get_or m x 0) e

pub kept_set : (i x : ℕ) (m : List ℕ) → Kept i 1 m (set m i x)
kept_set i x m = record { front = take-set-le i m i x (omega arith); behind = drop-set-lt (i + 1) m i x (omega arith) }

kept_placed_all : (a : ℕ) (ws m : List ℕ) → a ≤ length m → Kept a (length ws) m (placed m a ws)
unfolding placed
kept_placed_all a ws m le =
    let la : length (take a m) ≡ a = length-take-le a m le in
    record {
      front = take_at (take a m) (ws ++ drop (a + length ws) m) a la;
      behind = ap (drop (a + length ws)) (sym (append_assoc (take a m) ws (drop (a + length ws) m)))
          ∙ drop_at (take a m ++ ws) (drop (a + length ws) m) (a + length ws) (simp length-append (omega arith));
    }

pub placed_there : (a : ℕ) (ws m : List ℕ) → a ≤ length m → drop a (placed m a ws) ≡ ws ++ drop (a + length ws) m
unfolding placed
placed_there a ws m le = drop_at (take a m) (ws ++ drop (a + length ws) m) a (length-take-le a m le)

pub kept_placed : (a k : ℕ) (ws m : List ℕ) → length ws ≡ k → a ≤ length m → Kept a k m (placed m a ws)
kept_placed a k ws m e le = subst (λ x. Kept a x m (placed m a ws)) e (kept_placed_all a ws m le)

pub placed_words : (a k : ℕ) (ws m : List ℕ) → length ws ≡ k → a ≤ length m → words_at a k (placed m a ws) ≡ ws
placed_words a k ws m e le = ap (take k) (placed_there a ws m le) ∙ take_at ws (drop (a + length ws) m) k e

pub length_placed : (a : ℕ) (ws m : List ℕ) → a + length ws ≤ length m → length (placed m a ws) ≡ length m
unfolding placed
length_placed a ws m le = simp (length-append, length-append, length-drop) (omega (arith, length-take-le a m (omega arith)))

pub kept_trans : (a k : ℕ) (l m n : List ℕ) → Kept a k l m → Kept a k m n → Kept a k l n
kept_trans a k l m n p q = record { front = q.front ∙ p.front; behind = q.behind ∙ p.behind }

pub kept_wider : (a k b j : ℕ) (m n : List ℕ) → Kept a k m n → b ≤ a → a + k ≤ b + j → Kept b j m n
kept_wider a k b j m n h p q =
    record { front = sym (take-take b a n p) ∙ ap (take b) h.front ∙ take-take b a m p; behind = kept_behind a k (b + j) m n h q }

pub words_set : (b j i x : ℕ) (m : List ℕ) → i < j → words_at b j (set m (b + i) x) ≡ set (words_at b j m) i x
words_set b j i x m lt = ap (take j) (drop-set-add b m i x) ∙ take-set-lt j (drop b m) i x lt

-- what the checker has for a part that was lent and written
pub lent_placed : (a k : ℕ) (m ws : List ℕ) → length ws ≡ k → put_mid a k m ws ≡ placed m a ws
unfolding placed
lent_placed a k m ws e = ap (λ x. take a m ++ (ws ++ x)) (drop-drop k a m ∙ ap (λ x. drop (a + x) m) (sym e))
