use Rattle.std.proofs.Common.{◌≡◌, sym, ap, ◌∙◌, rules}
use Rattle.std.proofs.lemmas.List.{take_rest}
use Rattle.tokens.specs.Tokens.{after_number, token_in, numeral_in}
use Rattle.tokens.proofs.Reading.{other_none, turned_first, open_first, close_first, colon_first, other_first, not_number}
use Rattle.tokens.proofs.first_token.Goals as goal
use Rattle.tokens.proofs.first_token.Goals.{in_default-via-then-text-lt1, in_default-via-else-text-lt1+in_default-1}

pub returns-in-126 : goal.returns-in-126
returns-in-126 c = rw take_rest (sym (turned_first c.args.text.now (search rules)))

pub returns-in-40 : goal.returns-in-40
returns-in-40 c = rw take_rest (sym (open_first c.args.text.now (search rules)))

pub returns-in-41 : goal.returns-in-41
returns-in-41 c = rw take_rest (sym (close_first c.args.text.now (search rules)))

pub returns-in-58 : goal.returns-in-58
returns-in-58 c = rw take_rest (sym (colon_first c.args.text.now (search rules)))

pub returns-in_err-n-in_default : goal.returns-in_err-n-in_default
returns-in_err-n-in_default c =
    let text = c.args.text.now in
    let other : token_in text ≡ after_number (numeral_in text) =
    elim c.in_default.branch [
      | in_default-via-then-text-lt1 w ↦ other_none text (search rules)
      | in_default-via-else-text-lt1+in_default-1 w ↦ other_first text (search rules) (search rules) (search rules) (search rules)
    ] in
    rw c.from_residual.ensures (sym (other ∙ (ap after_number (sym c.in_err-n-in_default.ensures) ∙ not_number)))

pub returns-in_ok-n-in_default : goal.returns-in_ok-n-in_default
returns-in_ok-n-in_default c =
    let text = c.args.text.now in
    let other : token_in text ≡ after_number (numeral_in text) =
    elim c.in_default.branch [
      | in_default-via-then-text-lt1 w ↦ other_none text (search rules)
      | in_default-via-else-text-lt1+in_default-1 w ↦ other_first text (search rules) (search rules) (search rules) (search rules)
    ] in
    c.after_number.ensures ∙ (ap after_number c.in_ok-n-in_default.ensures ∙ sym other)
