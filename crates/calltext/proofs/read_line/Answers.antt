use Rattle.std.proofs.Common.{◌≡◌, ◌<◌, length, Some, None, sym, ap, ◌∙◌, rules, arith}
use Rattle.std.proofs.lemmas.Result.{err_from_is_err_and}
use Rattle.tokens.specs.declared.TextError.TheVariants.{Unreadable}
use Rattle.tokens.specs.Tokens.{cut}
use Rattle.calltext.specs.Lines.{worded, no_word}
use Rattle.calltext.specs.Results.{as_worded}
use Rattle.rowtext.proofs.Putting.{unless_memory}
use Rattle.calltext.proofs.Saying.{line_none, line_comment, line_word, worded_uncut, worded_cut, not_worded, are_same}
use Rattle.calltext.proofs.read_line.Goals as goal
use Rattle.calltext.proofs.read_line.Goals.{then-is_empty-via-then-is_empty, then-is_empty-via-else-is_empty+then-text-eq35}

pub returns-then-is_empty : goal.returns-then-is_empty
returns-then-is_empty c =
    let text = c.skip_blanks-text.result.now in
    elim c.then-is_empty.branch [
      | then-is_empty-via-then-is_empty w ↦ let none : length text ≡ 0 = search rules in line_none c.args.line.now text c.skip_blanks-text.ensures none
      | then-is_empty-via-else-is_empty+then-text-eq35 w ↦ let some : 0 < length text = search rules in line_comment c.args.line.now text c.skip_blanks-text.ensures some w.if-text-eq35.true
    ]

pub returns-in_err-kind : goal.returns-in_err-kind
returns-in_err-kind c =
    let none : c.first_word.result ≡ None = grind arith in
    let unreadable : c.in_err-kind.field-0.0 ≡ Unreadable = grind arith in
    let p = err_from_is_err_and c.from_residual.result c.from_residual.ensures.1 in
    rw (p.1, p.2, unreadable)
    (line_word c.args.line.now c.skip_blanks-text.result.now c.skip_blanks-text.ensures (search rules) (search rules) no_word (sym (ap as_worded none) ∙ c.first_word.ensures) ∙ not_worded)

pub returns-in_err-tokens : goal.returns-in_err-tokens
returns-in_err-tokens c =
    let k = c.in_ok-kind in
    let found : c.first_word.result ≡ Some (k.kind, k.rest) = grind arith in
    let e = line_word c.args.line.now c.skip_blanks-text.result.now c.skip_blanks-text.ensures (search rules) (search rules) (worded k.kind k.rest.now) (sym (ap as_worded found) ∙ c.first_word.ensures) in
    let p = err_from_is_err_and c.from_residual-in_err-tokens.result c.from_residual-in_err-tokens.ensures.1 in
    rw (p.1, p.2) (unless_memory c.in_err-tokens.field-0.0 _ _ (λ h. e ∙ worded_uncut k.kind k.rest.now h) c.in_err-tokens.ensures)

pub returns-in_err-calls : goal.returns-in_err-calls
returns-in_err-calls c =
    let k = c.in_ok-kind in
    let found : c.first_word.result ≡ Some (k.kind, k.rest) = grind arith in
    let e = line_word c.args.line.now c.skip_blanks-text.result.now c.skip_blanks-text.ensures (search rules) (search rules) (worded k.kind k.rest.now) (sym (ap as_worded found) ∙ c.first_word.ensures) in
    let f = worded_cut k.kind k.rest.now c.deref.result.now (c.in_ok-tokens.ensures ∙ ap cut (sym c.deref.ensures.value)) in
    let p = err_from_is_err_and c.from_residual-in_err-calls.result c.from_residual-in_err-calls.ensures.1 in
    rw (p.1, p.2) (unless_memory c.in_err-calls.field-0.0 _ _ (λ h. (e ∙ f) ∙ h) c.in_err-calls.ensures)

pub returns : goal.returns
returns c =
    let k = c.in_ok-kind in
    let found : c.first_word.result ≡ Some (k.kind, k.rest) = grind arith in
    let e = line_word c.args.line.now c.skip_blanks-text.result.now c.skip_blanks-text.ensures (search rules) (search rules) (worded k.kind k.rest.now) (sym (ap as_worded found) ∙ c.first_word.ensures) in
    let f = worded_cut k.kind k.rest.now c.deref.result.now (c.in_ok-tokens.ensures ∙ ap cut (sym c.deref.ensures.value)) in
    are_same (e ∙ f) c.in_ok-calls.ensures
