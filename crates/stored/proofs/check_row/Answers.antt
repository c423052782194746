use Rattle.std.proofs.Common.{[], arith}
use Rattle.rows.proofs.Parts.{carried_fields, carried_deep}
use Rattle.stored.proofs.Sources.{followed_whole}
use Rattle.stored.proofs.check_row.Goals as goal

pub measure-requires : goal.measure-requires
measure-requires c =
    let r = c.requires.0 in
    (r, [], followed_whole r _ (carried_fields r c.requires.2) c.requires.1, omega (arith, carried_deep r c.requires.2))

pub returns-in_err-row : goal.returns-in_err-row
returns-in_err-row c = λ r e k. rw c.from_residual.ensures (rw c.in_err-row.was at (c.measure.ensures r [] (followed_whole r _ (carried_fields r k) e)))

pub returns : goal.returns
returns c = λ r e k. let h = (rw c.in_ok-row.was at (c.measure.ensures r [] (followed_whole r _ (carried_fields r k) e))).0 in (h.0, h.1, h.3)
