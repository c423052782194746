use Rattle.std.proofs.Common.{◌≡◌, ◌<◌, ◌++◌, [], ◌∷◌, length, vec_items, Some, None, sym, ap, ◌∙◌, rules, arith}
use Rattle.std.proofs.lemmas.Result.{err_from_is_err_and}
use Rattle.tokens.specs.declared.TextError.TheVariants.{Unreadable}
use Rattle.tokens.specs.Results.{as_taken}
use Rattle.tokens.proofs.Reading.{token_shorter, blanks_are_past, past_short}
use Rattle.tokens.proofs.Cutting.{so_none, so_past_blanks, so_more, so_unreadable, so_all}
use Rattle.tokens.proofs.read_tokens.Goals as goal

pub loop-left-init : goal.loop-left-init
loop-left-init c = rw (c.new-found.ensures.items, c.skip_blanks-left.ensures) (record {
  so_far = so_past_blanks c.args.text.now [] c.args.text.now (so_none c.args.text.now);
  word = blanks_are_past c.args.text.now;
})

pub returns-in_err-token : goal.returns-in_err-token
returns-in_err-token c =
    let some : 0 < length c.loop-left.left.now = search rules in
    let none : c.first_token.result ≡ None = grind arith in
    let unreadable : c.in_err-token.field-0.0 ≡ Unreadable = grind arith in
    let p = err_from_is_err_and c.from_residual.result c.from_residual.ensures.1 in
    rw (p.1, p.2, unreadable)
    (so_unreadable c.args.text.now (vec_items c.loop-left.found) c.loop-left.left.now c.loop-left.invariant.so_far some (c.loop-left.invariant.word some) (sym (ap as_taken none) ∙ c.first_token.ensures))

pub loop-left-smaller : goal.loop-left-smaller
loop-left-smaller c =
    let some : 0 < length c.loop-left.left.now = search rules in
    let found : c.first_token.result ≡ Some (c.in_ok-token.token, c.in_ok-token.rest) = grind arith in
    let shorter = token_shorter c.loop-left.left.now c.in_ok-token.token c.in_ok-token.rest.now some (sym (ap as_taken found) ∙ c.first_token.ensures) in
    omega (arith, shorter, past_short c.in_ok-token.rest.now, ap length c.skip_blanks-left-in-loop-left.ensures)

pub loop-left-preserved : goal.loop-left-preserved
loop-left-preserved c =
    let some : 0 < length c.loop-left.left.now = search rules in
    let found : c.first_token.result ≡ Some (c.in_ok-token.token, c.in_ok-token.rest) = grind arith in
    let token = sym (ap as_taken found) ∙ c.first_token.ensures in
    let shorter = token_shorter c.loop-left.left.now c.in_ok-token.token c.in_ok-token.rest.now some token in
    let pushed : vec_items c.push.new.self ≡ vec_items c.loop-left.found ++ (c.in_ok-token.token ∷ []) = c.in_ok-push.ensures.items in
    rw (pushed, c.skip_blanks-left-in-loop-left.ensures) (record {
      so_far = so_past_blanks c.args.text.now _ c.in_ok-token.rest.now
          (so_more c.args.text.now (vec_items c.loop-left.found) c.loop-left.left.now c.loop-left.invariant.so_far some c.in_ok-token.token c.in_ok-token.rest.now (c.loop-left.invariant.word some) token shorter);
      word = blanks_are_past c.in_ok-token.rest.now;
    })

pub returns : goal.returns
returns c = so_all c.args.text.now (vec_items c.loop-left.found) c.loop-left.left.now c.loop-left.invariant.so_far (search rules)
