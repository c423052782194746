use Rattle.std.proofs.Common.{◌≡◌, ◌<◌, length, vec_items, rules}
use Rattle.std.proofs.lemmas.Result.{err_from_is_err_and}
use Rattle.rowtext.proofs.Putting.{unless_memory, row_bad, row_over, row_whole}
use Rattle.rowtext.proofs.put_row.Goals as goal

pub returns-in_err-rest : goal.returns-in_err-rest
returns-in_err-rest c =
    let p = err_from_is_err_and c.from_residual.result c.from_residual.ensures.1 in
    rw (p.1, p.2) (unless_memory c.in_err-rest.field-0.0 _ _ (row_bad c.args.tokens.now) (rw c.count_items.ensures at c.in_err-rest.ensures))

pub returns-then-is_empty : goal.returns-then-is_empty
returns-then-is_empty c =
    let none : length c.in_ok-rest.rest.now ≡ 0 = search rules in
    row_whole c.args.tokens.now (vec_items c.args.bytes.now) (vec_items c.row.new.bytes) c.in_ok-rest.rest.now (rw c.count_items.ensures at c.in_ok-rest.ensures) none

pub returns-else-is_empty : goal.returns-else-is_empty
returns-else-is_empty c =
    let some : 0 < length c.in_ok-rest.rest.now = search rules in
    row_over c.args.tokens.now (vec_items c.args.bytes.now) (vec_items c.row.new.bytes) c.in_ok-rest.rest.now (rw c.count_items.ensures at c.in_ok-rest.ensures) some
