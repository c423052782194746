use Rattle.std.proofs.Common.{sym, ap, ◌∙◌, drop, rules, tests}
use Rattle.std.proofs.lemmas.List.{take_rest}
use Rattle.tokens.specs.Tokens.{is_blank}
use Rattle.tokens.proofs.Reading.{past_blanks_is}
use Rattle.tokens.proofs.skip_blanks.Goals as goal

pub returns : goal.returns
returns c = rw take_rest (ap (λ k. drop k c.args.text.now) (c.count_front.ensures.all is_blank (λ x b k. search (rules, tests))) ∙ sym (past_blanks_is c.args.text.now))
