use Rattle.std.proofs.Common.{◌≡◌, ◌<◌, ◌++◌, ◌∙◌, length, get_or, vec_items, ap, arith, rules}
use Rattle.std.proofs.lemmas.List.{take_rest}
use Rattle.std.proofs.lemmas.Result.{err_from_is_err_and}
use Rattle.rowtext.proofs.Putting.{row_none, row_few, halves_told, halves_bad, empty_told, number_told, run_told, times_told, turned_told, other_is, open_told, open_unclosed, open_bad}
use Rattle.tokens.specs.declared.Token.TheVariants.{Number, Close}
use Rattle.rowtext.proofs.+row.Goals as goal
use Rattle.rowtext.proofs.+row.Goals.{in_default-2-via-then-branch-lt1, in_default-2-via-else-branch-lt1+in-Number-1}

pub returns-then-deep-eq0 : goal.returns-then-deep-eq0
returns-then-deep-eq0 t c = row_none c.args.deep c.args.n c.args.tokens.now c.if-deep-eq0.true

pub returns-then-n-eq0 : goal.returns-then-n-eq0
returns-then-n-eq0 t c = row_few c.args.deep c.args.n c.args.tokens.now c.if-n-eq0.true

pub returns-in_err-rest : goal.returns-in_err-rest
returns-in_err-rest t c =
    let p = err_from_is_err_and c.from_residual-in_err-rest.result c.from_residual-in_err-rest.ensures.1 in
    rw (p.1, p.2)
    (halves_bad c.args.deep c.args.tokens.now (omega arith) c.args.n (omega arith) c.in_err-rest.field-0.0
    (vec_items c.args.bytes.now) (vec_items c.push.new.self) (vec_items c.row.new.bytes) (vec_items c.row.new.bytes) c.in_err-rest.ensures)

pub returns-then-n-gt1 : goal.returns-then-n-gt1
returns-then-n-gt1 t c =
    halves_told c.args.deep c.args.tokens.now (omega arith) c.args.n (omega arith) c.row-then-n-gt1.result c.in_ok-rest.rest.now
    (vec_items c.args.bytes.now) (vec_items c.push.new.self) (vec_items c.row.new.bytes) (vec_items c.row-then-n-gt1.new.bytes)
    c.in_ok-push.ensures.items c.in_ok-rest.ensures c.row-then-n-gt1.ensures

pub returns-in_default : goal.returns-in_default
returns-in_default t c =
    let e : c.args.n ≡ 1 = omega arith in
    rw e (empty_told c.args.deep c.args.tokens.now (omega arith) (search rules))

pub returns-in_err-row-in-Open : goal.returns-in_err-row-in-Open
returns-in_err-row-in-Open t c =
    let p = err_from_is_err_and c.from_residual-in_err-row-in-Open.result c.from_residual-in_err-row-in-Open.ensures.1 in
    let e : c.args.n ≡ 1 = omega arith in
    rw (p.1, p.2, e)
    (open_bad c.args.deep c.args.tokens.now (omega arith) (search rules) c.in-Open.is c.in_err-row-in-Open.field-0.0
    (vec_items c.args.bytes.now) (vec_items c.args.bytes.now) (vec_items c.row-in-Open.new.bytes) (vec_items c.row-in-Open.new.bytes)
    (rw (c.depth_inside.ensures, c.count_items-n.ensures, take_rest c.args.tokens.now 1) at c.in_err-row-in-Open.ensures))

pub returns-in_ok-put_part-in-Number : goal.returns-in_ok-put_part-in-Number
returns-in_ok-put_part-in-Number t c =
    let e : c.args.n ≡ 1 = omega arith in
    rw (take_rest, e) (number_told c.args.deep c.args.tokens.now (omega arith) (search rules) c.in-Number.n (vec_items c.args.bytes.now) (vec_items c.put_part.new.bytes) c.in-Number.is c.in_ok-put_part-in-Number.ensures)

pub returns-in_ok-extend_from_slice-in-Run : goal.returns-in_ok-extend_from_slice-in-Run
returns-in_ok-extend_from_slice-in-Run t c =
    let e : c.args.n ≡ 1 = omega arith in
    rw (take_rest, e) (run_told c.args.deep c.args.tokens.now (omega arith) (search rules) c.in-Run.a c.in-Run.b
    (vec_items c.args.bytes.now) (vec_items c.put_part-in-Run.new.bytes) (vec_items c.extend_from_slice.new.self) c.in-Run.is c.in_ok-put_part-in-Run.ensures (c.in_ok-extend_from_slice-in-Run.ensures.items ∙ ap (λ l. vec_items c.put_part-in-Run.new.bytes ++ l) c.u32_bytes.ensures))

pub returns-in_ok-put_part-in-Times : goal.returns-in_ok-put_part-in-Times
returns-in_ok-put_part-in-Times t c =
    let e : c.args.n ≡ 1 = omega arith in
    rw e (times_told c.args.deep c.args.tokens.now (omega arith) (search rules) c.in-Times.n c.row-in-Times.result
    (vec_items c.args.bytes.now) (vec_items c.put_part-in-Times.new.bytes) (vec_items c.row-in-Times.new.bytes) c.in-Times.is c.in_ok-put_part-in-Times.ensures
    (rw (take_rest c.args.tokens.now 1) at c.row-in-Times.ensures))

pub returns-in_ok-push-in-Turned : goal.returns-in_ok-push-in-Turned
returns-in_ok-push-in-Turned t c =
    let e : c.args.n ≡ 1 = omega arith in
    rw e (turned_told c.args.deep c.args.tokens.now (omega arith) (search rules) c.row-in-Turned.result
    (vec_items c.args.bytes.now) (vec_items c.push-in-Turned.new.self) (vec_items c.row-in-Turned.new.bytes) c.in-Turned.is c.in_ok-push-in-Turned.ensures.items
    (rw (take_rest c.args.tokens.now 1) at c.row-in-Turned.ensures))

pub returns-in-Close-2 : goal.returns-in-Close-2
returns-in-Close-2 t c =
    let e : c.args.n ≡ 1 = omega arith in
    let rest = c.in_ok-row-in-Open.field-0.now in
    let close : get_or rest 0 (Number 0) ≡ Close = search rules in
    rw (take_rest, e) (open_told c.args.deep c.args.tokens.now (omega arith) (search rules) c.in-Open.is
    (vec_items c.args.bytes.now) (vec_items c.row-in-Open.new.bytes) rest
    (rw (c.depth_inside.ensures, c.count_items-n.ensures, take_rest c.args.tokens.now 1) at c.in_ok-row-in-Open.ensures) (search rules) close)

pub returns-in_default-2 : goal.returns-in_default-2
returns-in_default-2 t c =
    let e : c.args.n ≡ 1 = omega arith in
    let rest = c.in_ok-row-in-Open.field-0.now in
    let unclosed : 0 < length rest → get_or rest 0 (Number 0) ≡ Close → ⊥ =
    elim c.in_default-2.branch [
      | in_default-2-via-then-branch-lt1 w ↦ λ some is. let none : length rest < 1 = search rules in absurd (omega arith)
      | in_default-2-via-else-branch-lt1+in-Number-1 w ↦ λ some is. grind arith
    ] in
    rw e (open_unclosed c.args.deep c.args.tokens.now (omega arith) (search rules) c.in-Open.is
    (vec_items c.args.bytes.now) (vec_items c.row-in-Open.new.bytes) rest
    (rw (c.depth_inside.ensures, c.count_items-n.ensures, take_rest c.args.tokens.now 1) at c.in_ok-row-in-Open.ensures) unclosed)

pub returns-in-Close : goal.returns-in-Close
returns-in-Close t c =
    let e : c.args.n ≡ 1 = omega arith in
    rw e (other_is c.args.deep c.args.tokens.now (omega arith) (search rules) c.in-Close.is)
