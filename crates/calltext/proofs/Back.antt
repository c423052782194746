-- A call's line is read as that call.
use Rattle.std.proofs.Common.{◌≡◌, ℕ, ◌<◌, true, ◌&&◌, List, [], ◌∷◌, ◌++◌, decimal, sym, refl, ap, ◌∙◌, arith}
use Rattle.std.proofs.lemmas.List.{append-nil}
use Rattle.std.proofs.lemmas.Bool.{and_parts, ltb-true, false≢true}
use Rattle.weave.specs.Calls.{threads, treadles, ties, back, cell, part, floats, fewest, hangs, garbled}
use Rattle.weave.specs.Promise.{field, readable}
use Rattle.encoding.specs.Calls.{any}
use Rattle.encoding.proofs.Rows.{carried_parts}
use Rattle.tokens.specs.declared.Token.{Token}
use Rattle.tokens.specs.declared.Token.TheVariants.{Number, Colon}
use Rattle.tokens.specs.Tokens.{text_on, tokens_text, past_blanks, tokens_in, tokens_of}
use Rattle.tokens.proofs.Back.{AllFair, tokens_back}
use Rattle.rowtext.specs.Rows.{row_tokens}
use Rattle.rowtext.specs.Round.{row_text}
use Rattle.rowtext.proofs.Rows.{tokens_row_back}
use Rattle.rowtext.proofs.Back.{row_fair}
use Rattle.encoding.specs.declared.kinds.CallKind.{CallKind}
use Rattle.encoding.specs.declared.kinds.CallKind.TheVariants.{Thread, Treadle, Tie, Back, Cell, Part, Floats, Fewest, Hangs}
use Rattle.calltext.specs.Lines.{calls, with_row, before, numbers_of, with_numbers, tie_each, after_treadle, treadle_and_shafts, says, spelled, begins, word_in, says_cut, says_worded, says_text, line_says}
use Rattle.calltext.specs.Round.{call_line, LinesReadBack}

-- a word, a blank and a text
word_line : (w : CallKind) (cs : List ℕ) → line_says (spelled w ++ (32 ∷ cs)) ≡ says_cut w (tokens_of cs)
unfolding line_says says_text past_blanks says_worded word_in begins tokens_of tokens_in
word_line Thread cs = refl
word_line Treadle cs = refl
word_line Tie cs = refl
word_line Back cs = refl
word_line Cell cs = refl
word_line Part cs = refl
word_line Floats cs = refl
word_line Fewest cs = refl
word_line Hangs cs = refl

-- a word, a blank, and tokens as text
tokens_line : (w : CallKind) (ts : List Token) (cs : List ℕ) → AllFair ts → cs ≡ tokens_text ts → line_says (spelled w ++ (32 ∷ cs)) ≡ says w ts
unfolding says_cut
tokens_line w ts cs f e = word_line w cs ∙ ap (says_cut w) (ap tokens_of e ∙ tokens_back ts f)

-- a word alone
back_line : line_says (spelled Back) ≡ calls (back ∷ [])
unfolding line_says says_text past_blanks says_worded word_in begins tokens_of tokens_in says_cut says numbers_of with_numbers
back_line = refl

fewest_line : line_says (spelled Fewest) ≡ calls (fewest ∷ [])
unfolding line_says says_text past_blanks says_worded word_in begins tokens_of tokens_in says_cut says numbers_of with_numbers
fewest_line = refl

hangs_line : line_says (spelled Hangs) ≡ calls (hangs ∷ [])
unfolding line_says says_text past_blanks says_worded word_in begins tokens_of tokens_in says_cut says numbers_of with_numbers
hangs_line = refl

small : (n : ℕ) → field n ≡ true → n < 4294967296
small n h = ltb-true n 4294967296 h

pub lines_read_back : LinesReadBack
unfolding call_line readable any row_text tokens_text text_on says with_row numbers_of before with_numbers treadle_and_shafts after_treadle tie_each
lines_read_back (threads r) a h =
    let p = carried_parts r h in
    tokens_line Thread (row_tokens r) (row_text r) (row_fair r p.0) refl ∙ ap (with_row threads) (tokens_row_back r (omega (arith, p.2)))
lines_read_back (treadles r) a h =
    let p = carried_parts r h in
    tokens_line Treadle (row_tokens r) (row_text r) (row_fair r p.0) refl ∙ ap (with_row treadles) (tokens_row_back r (omega (arith, p.2)))
lines_read_back (ties t s) a h =
    let p = and_parts (field t) (field s) h in
    tokens_line Tie (Number t ∷ Colon ∷ Number s ∷ []) _ (small t p.0, (tt, (small s p.1, tt))) (ap (λ l. decimal t ++ (58 ∷ 32 ∷ l)) (sym (append-nil (decimal s))))
lines_read_back back a h = back_line
lines_read_back (cell p e) a h =
    let q = and_parts (field p) (field e) h in
    tokens_line Cell (Number p ∷ Number e ∷ []) _ (small p q.0, (small e q.1, tt)) (ap (λ l. decimal p ++ (32 ∷ l)) (sym (append-nil (decimal e))))
lines_read_back (part p e n) a h =
    let q = and_parts (field p) (field e && field n) h in
    let r = and_parts (field e) (field n) q.1 in
    tokens_line Part (Number p ∷ Number e ∷ Number n ∷ []) _ (small p q.0, (small e r.0, (small n r.1, tt))) (ap (λ l. decimal p ++ (32 ∷ (decimal e ++ (32 ∷ l)))) (sym (append-nil (decimal n))))
lines_read_back (floats k) a h = tokens_line Floats (Number k ∷ []) _ (small k h, tt) (sym (append-nil (decimal k)))
lines_read_back fewest a h = fewest_line
lines_read_back hangs a h = hangs_line
lines_read_back (garbled n) a h = absurd (false≢true a)
