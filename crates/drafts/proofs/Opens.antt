-- What the code of opening writes, step by step.
use Rattle.std.proofs.Common.{◌≡◌, ℕ, zero, suc, ◌+◌, ◌-◌, ◌*◌, ◌≤◌, true, ◌&&◌, ltb, leb, List, ◌++◌, length, drop, sym, ap, ◌∙◌, append_assoc, add-one, arith}
use borrow.Rule.Slice.PartMut.{put_mid}
use Rattle.std.proofs.lemmas.List.{append-nil, take_at, drop_at, drop-drop, drop_all}
use Rattle.std.proofs.lemmas.Bool.{and_parts, leb-true}
use Rattle.encoding.specs.Numbers.{placed}
use Rattle.desks.specs.Memory.{slots_at, row_part, asked}
use Rattle.desks.specs.Keepers.{new_row, new_rows, new_head, opened_words, in_range}
use Rattle.desks.proofs.Parts.{lent_placed}
use Rattle.desks.proofs.Opens.{row_long, rows_long, head_long}

-- words placed behind others
placed_behind : (a : ℕ) (p ws r : List ℕ) → length p ≡ a → placed (p ++ r) a ws ≡ p ++ (ws ++ drop (length ws) r)
unfolding placed
placed_behind a p ws r e =
    ap (λ x. x ++ (ws ++ drop (a + length ws) (p ++ r))) (take_at p r a e)
    ∙ ap (λ x. p ++ (ws ++ x)) (sym (drop-drop (length ws) a (p ++ r)) ∙ ap (drop (length ws)) (drop_at p r a e))

rows_more : (k : ℕ) → new_rows k ++ new_row ≡ new_rows (suc k)
unfolding new_rows
rows_more zero = sym (append-nil new_row)
rows_more (suc k) = append_assoc new_row (new_rows k) new_row ∙ ap (λ x. new_row ++ x) (rows_more k)

pub row_more : (k b : ℕ) (m e xs : List ℕ) → m ≡ new_rows k ++ drop (row_part * k) e → b ≡ row_part → xs ≡ new_row →
    put_mid (row_part * k) b m xs ≡ new_rows (k + 1) ++ drop (row_part * (k + 1)) e
row_more k b m e xs im ib ix =
    let far : row_part * k + row_part ≡ row_part * (k + 1) = omega arith in
    let rest = drop (row_part * k) e in
    lent_placed (row_part * k) b m xs (ap length ix ∙ row_long ∙ sym ib)
    ∙ (λ i. placed (im i) (row_part * k) (ix i))
    ∙ placed_behind (row_part * k) (new_rows k) new_row rest (rows_long k)
    ∙ sym (append_assoc (new_rows k) new_row (drop (length new_row) rest))
    ∙ ap (λ x. x ++ drop (length new_row) rest) (rows_more k ∙ ap new_rows (sym (add-one k)))
    ∙ ap (λ x. new_rows (k + 1) ++ x) (ap (λ n. drop n rest) row_long ∙ drop-drop row_part (row_part * k) e ∙ ap (λ n. drop n e) far)

pub rows_all : (n k : ℕ) (m e : List ℕ) → k ≡ n → m ≡ new_rows k ++ drop (row_part * k) e → length e ≡ row_part * n → m ≡ new_rows n
rows_all n k m e ek im le = im ∙ ap (λ x. new_rows k ++ x) (drop_all (row_part * k) e (omega arith)) ∙ append-nil (new_rows k) ∙ ap new_rows ek

-- the head, and the rows behind it
pub opened : (s t u b : ℕ) (m h ys : List ℕ) → asked u ≤ length m → b ≡ asked u → h ≡ new_head s t u → ys ≡ new_rows (2 * (u + 1)) →
    put_mid slots_at (b - slots_at) (h ++ drop slots_at m) ys ≡ opened_words s t u ++ drop (asked u) m
unfolding opened_words
opened s t u b m h ys room ib ih iy =
    let d = drop slots_at m in
    let rows = new_rows (2 * (u + 1)) in
    let long : length ys ≡ row_part * (2 * (u + 1)) = ap length iy ∙ rows_long (2 * (u + 1)) in
    let end : slots_at + length ys ≡ asked u = omega arith in
    lent_placed slots_at (b - slots_at) (h ++ d) ys (omega arith)
    ∙ placed_behind slots_at h ys d (ap length ih ∙ head_long s t u)
    ∙ ap (λ x. h ++ (ys ++ x)) (drop-drop (length ys) slots_at m ∙ ap (λ n. drop n m) end)
    ∙ (λ i. ih i ++ (iy i ++ drop (asked u) m))
    ∙ sym (append_assoc (new_head s t u) rows (drop (asked u) m))

-- limits in range have so few changes to be undone
pub few_undos : (s t u : ℕ) → in_range s t u ≡ true → u ≤ 256
few_undos s t u ok =
    let p = and_parts (ltb 0 s && leb s 64) ((ltb 0 t && leb t 64) && leb u 256) ok in
    leb-true u 256 (and_parts (ltb 0 t && leb t 64) (leb u 256) p.1).1
