use Rattle.std.proofs.Common.{◌≡◌, false, get_or, sym, refl, ◌∙◌, rules}
use Rattle.std.specs.Char.{is_ascii_digit}
use Rattle.tokens.proofs.Reading.{number_none, number_some, none_first}
use Rattle.tokens.proofs.numeral.Goals as goal
use Rattle.tokens.proofs.numeral.Goals.{in_default-via-then-text-lt1, in_default-via-in-len1-up+else-is_ascii_digit}

pub returns-in-len1-up : goal.returns-in-len1-up
returns-in-len1-up c = c.digits.ensures ∙ sym (number_some c.args.text.now (sym c.if-is_ascii_digit.ensures.value))

pub returns-in_default : goal.returns-in_default
returns-in_default c =
    let e : is_ascii_digit (get_or c.args.text.now 0 0) ≡ false =
    elim c.in_default.branch [
      | in_default-via-then-text-lt1 w ↦ rw (none_first c.args.text.now (search rules)) refl
      | in_default-via-in-len1-up+else-is_ascii_digit w ↦ sym w.if-is_ascii_digit.ensures.value
    ] in
    sym (number_none c.args.text.now e)
