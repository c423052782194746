use Rattle.std.proofs.Common.{sym, ap, ◌∙◌}
use Rattle.std.proofs.lemmas.Result.{err_from_is_err_and}
use Rattle.tokens.specs.Tokens.{cut}
use Rattle.rowtext.proofs.Putting.{unless_memory, text_uncut, text_cut, put_same}
use Rattle.rowtext.proofs.read_row.Goals as goal

pub returns-in_err-tokens : goal.returns-in_err-tokens
returns-in_err-tokens c =
    let p = err_from_is_err_and c.from_residual.result c.from_residual.ensures.1 in
    rw (p.1, p.2) (unless_memory c.in_err-tokens.field-0.0 _ _ (text_uncut c.args.text.now) c.in_err-tokens.ensures)

pub returns-in_err-put_row : goal.returns-in_err-put_row
returns-in_err-put_row c =
    let e = text_cut c.args.text.now c.deref.result.now (c.in_ok-tokens.ensures ∙ ap cut (sym c.deref.ensures.value)) in
    let p = err_from_is_err_and c.from_residual-in_err-put_row.result c.from_residual-in_err-put_row.ensures.1 in
    rw (p.1, p.2) (unless_memory c.in_err-put_row.field-0.0 _ _ (λ h. e ∙ h) c.in_err-put_row.ensures)

pub returns : goal.returns
returns c =
    put_same (text_cut c.args.text.now c.deref.result.now (c.in_ok-tokens.ensures ∙ ap cut (sym c.deref.ensures.value))) c.new-bytes.ensures.items c.in_ok-put_row.ensures
