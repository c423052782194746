use Rattle.std.proofs.Common.{◌≡◌, ◌<◌, length, [], ◌∷◌, ◌++◌, map, vec_items, ap, ◌∙◌, rules}
use Rattle.std.proofs.lemmas.Result.{err_from_is_err_and}
use Rattle.calltext.proofs.Numbers.{tying_more, tying_all, tying_other, tie_none, map_more}
use Rattle.calltext.proofs.each_tie.Goals as goal

pub returns-then-is_empty : goal.returns-then-is_empty
returns-then-is_empty c = let none : length c.args.shafts.now ≡ 0 = search rules in tie_none c.args.treadle c.args.shafts.now none

pub returns-in_err-shaft : goal.returns-in_err-shaft
returns-in_err-shaft c =
    let p = err_from_is_err_and c.from_residual.result c.from_residual.ensures.1 in
    rw (p.1, p.2, c.in_err-shaft.ensures.0) (tying_other c.args.treadle c.args.shafts.now c.loop-token.token-index _ c.loop-token.invariant c.loop-token-test.true c.in_err-shaft.ensures.1)

pub loop-token-preserved : goal.loop-token-preserved
loop-token-preserved c =
    tying_more c.args.treadle c.args.shafts.now c.loop-token.token-index (map vec_items (vec_items c.loop-token.calls)) _ c.in_ok-shaft.shaft c.loop-token.invariant c.loop-token-test.true c.in_ok-shaft.ensures
    (ap (map vec_items) c.in_ok-push.ensures.items ∙ (map_more vec_items (vec_items c.loop-token.calls) (c.in_ok-tie_call.field-0 ∷ []) ∙ ap (λ b. map vec_items (vec_items c.loop-token.calls) ++ (b ∷ [])) c.in_ok-tie_call.ensures))

pub returns : goal.returns
returns c =
    let some : 0 < length c.args.shafts.now = search rules in
    tying_all c.args.treadle c.args.shafts.now c.loop-token.token-index _ some c.loop-token.invariant c.loop-token-test.false
