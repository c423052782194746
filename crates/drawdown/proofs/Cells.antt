-- Cells of a pick put behind a text, some after others.
use Rattle.std.proofs.Common.{◌≡◌, ℕ, zero, suc, ◌+◌, ◌-◌, ◌≤◌, min, List, ◌∷◌, ◌++◌, map, sym, refl, ap, ◌∙◌, append_assoc, arith}
use mathlib.Core.List.{map-append}
use native.Mathlib.Nat.{min-eq_left}
use Rattle.std.proofs.lemmas.List.{append-nil}
use Rattle.weave.specs.Cloth.{Draft, warp_over}
use Rattle.weave.specs.Calls.{cells, cells_of}
use Rattle.encoding.specs.Answers.{bits_in}
use Rattle.answertext.specs.Answers.{cell_text, answer_text}

-- the text of an answer that tells cells
pub cells_told : (d : Draft) (p c n : ℕ) (bs whole new : List ℕ) → n ≤ 1024 → bits_in bs n ≡ cells_of d p c n → new ≡ whole ++ answer_text (cells (bits_in bs (min n 1024))) → new ≡ whole ++ map cell_text (cells_of d p c n)
unfolding answer_text
cells_told d p c n bs whole new few told is = is ∙ ap (λ l. whole ++ map cell_text l) (ap (bits_in bs) (min-eq_left few) ∙ told)

pub no_cells : (d : Draft) (p c n : ℕ) (whole : List ℕ) → n ≡ 0 → whole ≡ whole ++ map cell_text (cells_of d p c n)
unfolding cells_of
no_cells d p c n whole e = rw e (sym (append-nil whole))

cells_split : (d : Draft) (p c a b e n : ℕ) → e ≡ c + a → n ≡ a + b → cells_of d p c n ≡ cells_of d p c a ++ cells_of d p e b
unfolding cells_of
cells_split d p c zero b e n h k = (let x : e ≡ c = omega arith in let y : n ≡ b = omega arith in rw (x, y) refl)
cells_split d p c (suc a) b e n h k =
    let y : n ≡ suc (a + b) = omega arith in
    rw y (ap (λ l. warp_over d p c ∷ l) (cells_split d p (suc c) a b e (a + b) (omega arith) refl))

-- the cells up to e, and then n more
pub cells_more : (d : Draft) (p c e n m : ℕ) (whole now new : List ℕ) → c ≤ e → m ≡ e + n → now ≡ whole ++ map cell_text (cells_of d p c (e - c)) → new ≡ now ++ map cell_text (cells_of d p e n) →
    new ≡ whole ++ map cell_text (cells_of d p c (m - c))
cells_more d p c e n m whole now new h s k f =
    f ∙ (ap (λ l. l ++ map cell_text (cells_of d p e n)) k
    ∙ (append_assoc whole (map cell_text (cells_of d p c (e - c))) (map cell_text (cells_of d p e n))
    ∙ ap (λ l. whole ++ l)
    (sym (map-append cell_text (cells_of d p c (e - c)) (cells_of d p e n)) ∙ ap (map cell_text) (sym (cells_split d p c (e - c) n e (m - c) (omega arith) (omega arith))))))
