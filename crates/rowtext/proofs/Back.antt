-- The text of a row is read as that row.
use Rattle.std.proofs.Common.{◌≡◌, Bool, true, false, cond, List, [], ◌∷◌, ◌++◌}
use Rattle.std.proofs.lemmas.Bool.{and_parts, ltb-true}
use Rattle.weave.specs.Rows.{Row, one, then, times, turned, run}
use Rattle.weave.specs.Promise.{field, fields_in}
use Rattle.tokens.specs.declared.Token.{Token}
use Rattle.tokens.specs.declared.Token.TheVariants.{Close}
use Rattle.tokens.proofs.Back.{AllFair, tokens_back}
use Rattle.rowtext.specs.Rows.{evenly, is_join, grouped, row_tokens}
use Rattle.rowtext.specs.Round.{row_text, row_of_cut, text_row, ReadsBack}
use Rattle.rowtext.proofs.Rows.{tokens_row_back}

fair_both : (xs ys : List Token) → AllFair xs → AllFair ys → AllFair (xs ++ ys)
fair_both [] ys f g = g
fair_both (x ∷ xs) ys f g = (f.0, fair_both xs ys f.1 g)

fair_grouped : (b : Bool) (xs : List Token) → AllFair xs → AllFair (grouped b xs)
fair_grouped true xs f = (tt, fair_both xs (Close ∷ []) f (tt, tt))
fair_grouped false xs f = f

fair_then : (b c d : Bool) (xs ys : List Token) → AllFair xs → AllFair ys → AllFair (cond b (xs ++ ys) (grouped c xs ++ grouped d ys))
fair_then true c d xs ys f g = fair_both xs ys f g
fair_then false c d xs ys f g = fair_both (grouped c xs) (grouped d ys) (fair_grouped c xs f) (fair_grouped d ys g)

pub row_fair : (r : Row) → fields_in r ≡ true → AllFair (row_tokens r)
unfolding row_tokens fields_in
row_fair (one n) h = (ltb-true n 4294967296 h, tt)
row_fair (then r s) h =
    let p = and_parts (fields_in r) (fields_in s) h in
    fair_then (evenly (then r s)) (is_join r) (is_join s) (row_tokens r) (row_tokens s) (row_fair r p.0) (row_fair s p.1)
row_fair (times n r) h =
    let p = and_parts (field n) (fields_in r) h in
    (ltb-true n 4294967296 p.0, fair_grouped (is_join r) (row_tokens r) (row_fair r p.1))
row_fair (turned r) h = (tt, fair_grouped (is_join r) (row_tokens r) (row_fair r h))
row_fair (run a b) h =
    let p = and_parts (field a) (field b) h in
    ((ltb-true a 4294967296 p.0, ltb-true b 4294967296 p.1), tt)

pub reads_back : ReadsBack
unfolding text_row row_text row_of_cut
reads_back r f h = rw (tokens_back (row_tokens r) (row_fair r f)) (tokens_row_back r h)
