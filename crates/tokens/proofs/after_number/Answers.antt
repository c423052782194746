use Rattle.std.proofs.Common.{◌≡◌, get_or, drop, sym, ap, ◌∙◌, rules, arith}
use Rattle.std.proofs.lemmas.List.{take_rest}
use Rattle.tokens.specs.declared.Token.TheVariants.{Times}
use Rattle.tokens.specs.Tokens.{run_from, numeral_in, taken}
use Rattle.tokens.proofs.Reading.{run_after, times_after, number_alone, run_made, run_not, none_not}
use Rattle.tokens.proofs.after_number.Goals as goal
use Rattle.tokens.proofs.after_number.Goals.{then-text-lt1, else-text-lt1+in_default-1, in_default-skip_blanks-via-then-skip_blanks-lt1, in_default-skip_blanks-via-else-skip_blanks-lt1+in_default-1}

pub returns-in_err-m : goal.returns-in_err-m
returns-in_err-m c =
    rw c.from_residual.ensures
    (sym (run_after c.args.n c.args.text.now (search rules) ∙ (ap (run_from c.args.n) (ap numeral_in (sym (take_rest c.args.text.now 1)) ∙ sym c.in_err-m.ensures) ∙ run_not c.args.n)))

pub returns-in-45 : goal.returns-in-45
returns-in-45 c =
    sym (run_after c.args.n c.args.text.now (search rules)
    ∙ (ap (run_from c.args.n) (ap numeral_in (sym (take_rest c.args.text.now 1)) ∙ sym c.in_ok-m.ensures) ∙ run_made c.args.n c.in_ok-m.m c.in_ok-m.rest.now))

pub returns-in-120 : goal.returns-in-120
returns-in-120 c =
    let e = c.skip_blanks.ensures in
    let no_run : get_or c.args.text.now 0 0 ≡ 45 → ⊥ =
    elim c.if-text-lt1.branch [
      | then-text-lt1 w ↦ none_not c.args.text.now 45 (omega arith) (search rules)
      | else-text-lt1+in_default-1 w ↦ search rules
    ] in
    sym (times_after c.args.n c.args.text.now no_run (ap (λ bs. get_or bs 0 0) (sym e) ∙ search rules)
    ∙ ap (taken (Times c.args.n)) (ap (drop 1) (sym e) ∙ sym (take_rest c.skip_blanks.result.now 1)))

pub returns-in_default-skip_blanks : goal.returns-in_default-skip_blanks
returns-in_default-skip_blanks c =
    let e = c.skip_blanks.ensures in
    let no_run : get_or c.args.text.now 0 0 ≡ 45 → ⊥ =
    elim c.if-text-lt1.branch [
      | then-text-lt1 w ↦ none_not c.args.text.now 45 (omega arith) (search rules)
      | else-text-lt1+in_default-1 w ↦ search rules
    ] in
    let no_times : get_or c.skip_blanks.result.now 0 0 ≡ 120 → ⊥ =
    elim c.in_default-skip_blanks.branch [
      | in_default-skip_blanks-via-then-skip_blanks-lt1 w ↦ none_not c.skip_blanks.result.now 120 (omega arith) (search rules)
      | in_default-skip_blanks-via-else-skip_blanks-lt1+in_default-1 w ↦ search rules
    ] in
    sym (number_alone c.args.n c.args.text.now no_run (λ q. no_times (ap (λ bs. get_or bs 0 0) e ∙ q)))
