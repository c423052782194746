use Rattle.std.proofs.Common.{◌≡◌, cond, [], ◌∷◌, ◌++◌, Some, None, vec_items, sym, ap, ◌∙◌, subst, arith}
use Rattle.std.proofs.lemmas.Result.{err_from_is_err_and}
use Rattle.encoding.specs.Rows.{row_bytes}
use Rattle.encoding.specs.Parts.{Opened}
use Rattle.encoding.proofs.Heads.{one_head, then_head, times_head, turned_head, run_head, has_part}
use Rattle.rowprint.proofs.Shaping.{too_deep, times_inside, turned_inside, then_inside}
use Rattle.rowprint.proofs.Printing.{opened, one_tokens, run_tokens, times_printed, turned_printed, put, not_put, uneven, then_printed, one_found, run_found, times_found, turned_found, then_found}
use Rattle.rowprint.specs.Results.{Shaped}
use Rattle.tokens.specs.declared.Token.TheVariants.{Open, Close}
use Rattle.rowprint.proofs.+push_row.Goals as goal
use Rattle.rowprint.proofs.+push_row.Goals.{then-item+in_ok-push-in-Then, else-item, then-item-2+in_ok-push-in-Then-2, else-item-2}

pub returns-then-deep-eq0-clause-told : goal.returns-then-deep-eq0-clause-told
returns-then-deep-eq0-clause-told t c = λ r rest e f h. too_deep r c.args.deep c.if-deep-eq0.true h

pub returns-in_err-n-clause-told : goal.returns-in_err-n-clause-told
returns-in_err-n-clause-told t c = λ r rest e f h.
    let none : c.outermost.result ≡ None = grind arith in
    absurd (has_part r c.args.row.now rest (subst (λ x. Opened x c.args.row.now) none c.outermost.ensures) e)

pub returns-in_ok-push-in-One-clause-found : goal.returns-in_ok-push-in-One-clause-found
returns-in_ok-push-in-One-clause-found t c =
    let o = opened c.outermost.result c.in_ok-n.field-0 _ c.args.row.now (grind arith) c.in-One.is c.outermost.ensures in
    one_found _ _ _ _ (omega arith) o.0 o.1

pub returns-in_ok-push-in-One-clause-told : goal.returns-in_ok-push-in-One-clause-told
returns-in_ok-push-in-One-clause-told t c = λ r rest e f h.
    let o = opened c.outermost.result c.in_ok-n.field-0 _ c.args.row.now (grind arith) c.in-One.is c.outermost.ensures in
    let p = one_head c.args.row.now rest _ _ o.0 o.1 r e f in
    (p.1, c.in_ok-push-in-One.ensures.items ∙ ap (λ l. vec_items c.args.out.now ++ l) (sym (one_tokens c.args.item r _ p.0)))

pub returns-in_ok-push-in-Run-clause-found : goal.returns-in_ok-push-in-Run-clause-found
returns-in_ok-push-in-Run-clause-found t c =
    let o = opened c.outermost.result c.in_ok-n.field-0 _ c.args.row.now (grind arith) c.in-Run.is c.outermost.ensures in
    run_found _ _ _ _ _ (omega arith) o.0 o.1 o.2

pub returns-in_ok-push-in-Run-clause-told : goal.returns-in_ok-push-in-Run-clause-told
returns-in_ok-push-in-Run-clause-told t c = λ r rest e f h.
    let o = opened c.outermost.result c.in_ok-n.field-0 _ c.args.row.now (grind arith) c.in-Run.is c.outermost.ensures in
    let p = run_head c.args.row.now rest _ _ _ o.0 o.1 o.2 r e f in
    (p.1, c.in_ok-push-in-Run.ensures.items ∙ ap (λ l. vec_items c.args.out.now ++ l) (sym (run_tokens c.args.item r _ _ p.0)))

pub returns-in_ok-push-in-Times-clause-found : goal.returns-in_ok-push-in-Times-clause-found
returns-in_ok-push-in-Times-clause-found t c =
    let o = opened c.outermost.result c.in_ok-n.field-0 _ c.args.row.now (grind arith) c.in-Times.is c.outermost.ensures in
    times_found c.push_row.result _ _ _ _ (omega arith) o.0 o.1 c.push_row.ensures.found

pub returns-in_ok-push-in-Times-clause-told : goal.returns-in_ok-push-in-Times-clause-told
returns-in_ok-push-in-Times-clause-told t c = λ r rest e f h.
    let o = opened c.outermost.result c.in_ok-n.field-0 _ c.args.row.now (grind arith) c.in-Times.is c.outermost.ensures in
    let p = times_head c.args.row.now rest _ _ o.0 o.1 r e f in
    let i = times_inside r _ p.0 _ p.1 f h in
    times_printed c.args.item r c.in-Times.n p.0 p.1 c.push_row.result rest (vec_items c.args.out.now) (vec_items c.push-in-Times.new.self) (vec_items c.push_row.new.out)
    c.in_ok-push-in-Times.ensures.items (c.push_row.ensures.told p.0 rest p.2 i.0 i.1)

pub returns-in_ok-push-in-Turned-clause-found : goal.returns-in_ok-push-in-Turned-clause-found
returns-in_ok-push-in-Turned-clause-found t c =
    let o = opened c.outermost.result c.in_ok-n.field-0 _ c.args.row.now (grind arith) c.in-Turned.is c.outermost.ensures in
    turned_found c.push_row-in-Turned.result _ _ _ (omega arith) o c.push_row-in-Turned.ensures.found

pub returns-in_ok-push-in-Turned-clause-told : goal.returns-in_ok-push-in-Turned-clause-told
returns-in_ok-push-in-Turned-clause-told t c = λ r rest e f h.
    let o = opened c.outermost.result c.in_ok-n.field-0 _ c.args.row.now (grind arith) c.in-Turned.is c.outermost.ensures in
    let p = turned_head c.args.row.now rest _ o r e in
    let i = turned_inside r p.0 _ p.1 f h in
    turned_printed c.args.item r p.0 p.1 c.push_row-in-Turned.result rest (vec_items c.args.out.now) (vec_items c.push-in-Turned.new.self) (vec_items c.push_row-in-Turned.new.out)
    c.in_ok-push-in-Turned.ensures.items (c.push_row-in-Turned.ensures.told p.0 rest p.2 i.0 i.1)

pub returns-in_err-second-in-Then-clause-told : goal.returns-in_err-second-in-Then-clause-told
returns-in_err-second-in-Then-clause-told t c = λ r rest e f h.
    let o = opened c.outermost.result c.in_ok-n.field-0 _ c.args.row.now (grind arith) c.in-Then.is c.outermost.ensures in
    let p = then_head c.args.row.now rest _ o r e in
    let i = then_inside r p.0 p.1 _ p.2 f h in
    let x = err_from_is_err_and c.from_residual-in_err-second-in-Then.result c.from_residual-in_err-second-in-Then.ensures.1 in
    rw (x.1, x.2) (c.in_err-second-in-Then.ensures.told p.0 (row_bytes p.1 ++ rest) p.3 i.0 i.1)

pub returns-in_err-rest-in-Then-clause-told : goal.returns-in_err-rest-in-Then-clause-told
returns-in_err-rest-in-Then-clause-told t c = λ r rest e f h.
    let o = opened c.outermost.result c.in_ok-n.field-0 _ c.args.row.now (grind arith) c.in-Then.is c.outermost.ensures in
    let p = then_head c.args.row.now rest _ o r e in
    let i = then_inside r p.0 p.1 _ p.2 f h in
    let a = c.in_ok-second-in-Then.ensures.told p.0 (row_bytes p.1 ++ rest) p.3 i.0 i.1 in
    let x = err_from_is_err_and c.from_residual-in_err-rest-in-Then.result c.from_residual-in_err-rest-in-Then.ensures.1 in
    rw (x.1, x.2) (c.in_err-rest-in-Then.ensures.told p.1 rest a.0 i.2 i.3)

pub returns-after-item-2-clause-found : goal.returns-after-item-2-clause-found
returns-after-item-2-clause-found t c =
    let o = opened c.outermost.result c.in_ok-n.field-0 _ c.args.row.now (grind arith) c.in-Then.is c.outermost.ensures in
    then_found _ _ _ _ _ (omega arith) o c.in_ok-second-in-Then.ensures.found c.in_ok-rest-in-Then.ensures.found

pub returns-after-item-2-clause-told : goal.returns-after-item-2-clause-told
returns-after-item-2-clause-told t c = λ r rest e f h.
    let o = opened c.outermost.result c.in_ok-n.field-0 _ c.args.row.now (grind arith) c.in-Then.is c.outermost.ensures in
    let p = then_head c.args.row.now rest _ o r e in
    let i = then_inside r p.0 p.1 _ p.2 f h in
    let a = c.in_ok-second-in-Then.ensures.told p.0 (row_bytes p.1 ++ rest) p.3 i.0 i.1 in
    let b = c.in_ok-rest-in-Then.ensures.told p.1 rest a.0 i.2 i.3 in
    let j = c.in_ok-halves-in-Then in
    let shaped : c.shape.result ≡ Some (j.halves, j.field-0-1) = grind arith in
    let v = subst (λ x. Shaped x r rest) shaped (c.shape.ensures.told r rest e f h) in
    let opening : vec_items c.if-item.out ≡ vec_items c.args.out.now ++ cond c.args.item (Open ∷ []) [] =
    elim c.if-item.branch [
      | then-item+in_ok-push-in-Then w ↦ ap vec_items w.out-is ∙ put _ _ _ _ w.if-item.true w.in_ok-push-in-Then.ensures.items
      | else-item w ↦ ap vec_items w.out-is ∙ not_put _ _ _ w.if-item.false
    ] in
    let closing : vec_items c.if-item-2.out ≡ vec_items c.push_row-in-Then-2.new.out ++ cond c.args.item (Close ∷ []) [] =
    elim c.if-item-2.branch [
      | then-item-2+in_ok-push-in-Then-2 w ↦ ap vec_items w.out-is ∙ put _ _ _ _ w.if-item-2.true w.in_ok-push-in-Then-2.ensures.items
      | else-item-2 w ↦ ap vec_items w.out-is ∙ not_put _ _ _ w.if-item-2.false
    ] in (
      b.0,
      then_printed c.args.item c.is_none-uneven.result r p.0 p.1 p.2 (uneven j.halves r c.is_none-uneven.result v.0 c.is_none-uneven.ensures)
          (vec_items c.args.out.now) (vec_items c.if-item.out) (vec_items c.push_row-in-Then.new.out) (vec_items c.push_row-in-Then-2.new.out) (vec_items c.if-item-2.out)
          opening a.1 b.1 closing,
    )
