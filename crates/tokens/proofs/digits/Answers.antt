use Rattle.std.proofs.Common.{◌≡◌, ◌+◌, ◌-◌, ◌*◌, false, get_or, drop, sym, refl, ◌∙◌, arith, rules}
use Rattle.std.specs.Char.{is_ascii_digit}
use Rattle.std.proofs.lemmas.List.{take_rest}
use Rattle.tokens.proofs.Words.{digits_end}
use Rattle.tokens.proofs.Reading.{digits_on, digits_big, none_first}
use Rattle.tokens.proofs.digits.Goals as goal
use Rattle.tokens.proofs.digits.Goals.{in_default, in-len1-up+then-not-is_ascii_digit}

pub returns-then-n-from : goal.returns-then-n-from
returns-then-n-from c =
    sym (c.loop-left.invariant.1
    ∙ (digits_on c.loop-left.n c.loop-left.left.now (search rules) (sym c.if-not-is_ascii_digit.ensures.value)
    ∙ digits_big (c.loop-left.n * 10 + (get_or c.loop-left.left.now 0 0 - 48)) (drop 1 c.loop-left.left.now) (omega (arith, c.from.ensures))))

pub loop-left-preserved : goal.loop-left-preserved
loop-left-preserved c = (omega (arith, c.from.ensures), rw (take_rest, c.from.ensures) (c.loop-left.invariant.1 ∙ digits_on c.loop-left.n c.loop-left.left.now (search rules) (sym c.if-not-is_ascii_digit.ensures.value)))

pub returns : goal.returns
returns c =
    let e : is_ascii_digit (get_or c.loop-left.left.now 0 0) ≡ false =
    elim c.if-left-lt1.branch [
      | in_default w ↦ rw (none_first c.loop-left.left.now (search rules)) refl
      | in-len1-up+then-not-is_ascii_digit w ↦ sym w.if-not-is_ascii_digit.ensures.value
    ] in
    sym (c.loop-left.invariant.1 ∙ digits_end c.loop-left.left.now c.loop-left.n e c.loop-left.invariant.0)
