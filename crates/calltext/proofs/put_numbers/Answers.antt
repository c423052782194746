use Rattle.std.proofs.Common.{◌++◌, vec_items, ap, ◌∙◌}
use Rattle.std.proofs.lemmas.Result.{err_from_is_err_and}
use Rattle.calltext.proofs.Numbers.{putting_more, putting_all, so_other}
use Rattle.calltext.proofs.put_numbers.Goals as goal

pub returns-in_err-n : goal.returns-in_err-n
returns-in_err-n c =
    let p = err_from_is_err_and c.from_residual.result c.from_residual.ensures.1 in
    rw (p.1, p.2, c.in_err-n.ensures.0) (so_other c.args.tokens.now c.loop-token.token-index c.loop-token.invariant.ms c.loop-token.invariant.so c.loop-token-test.true c.in_err-n.ensures.1)

pub loop-token-preserved : goal.loop-token-preserved
loop-token-preserved c =
    putting_more c.args.tokens.now c.loop-token.token-index (vec_items c.args.bytes.now) (vec_items c.loop-token.bytes) (vec_items c.extend_from_slice.new.self) c.in_ok-n.n c.loop-token.invariant c.loop-token-test.true c.in_ok-n.ensures
    (c.in_ok-extend_from_slice.ensures.items ∙ ap (λ l. vec_items c.loop-token.bytes ++ l) c.u32_bytes.ensures)

pub returns : goal.returns
returns c = putting_all c.args.tokens.now c.loop-token.token-index (vec_items c.args.bytes.now) (vec_items c.loop-token.bytes) c.loop-token.invariant c.loop-token-test.false
