use Rattle.std.proofs.Common.{◌≡◌, Some, None, arith, true, false, get_or, sym, subst}
use Rattle.std.proofs.lemmas.Result.{err_from_is_err_and}
use Rattle.weave.specs.Rows.{Row}
use Rattle.weave.specs.Calls.{good_row}
use Rattle.weave.specs.Promise.{carried}
use Rattle.encoding.specs.Rows.{row_bytes}
use Rattle.stored.specs.Measures.{Checks}
use Rattle.wire.specs.declared.Refusal.TheVariants.{NotThere}
use Rattle.desks.specs.Memory.{limit_at, Sound}
use Rattle.desks.proofs.Keeps.{small_of}
use Rattle.desks.proofs.Sounds.{sound_row_changed}
use Rattle.desks.proofs.Answered.{row_refused, row_taken}
use Rattle.drafts.proofs.Steps.{entered}
use Rattle.drafts.proofs.enter.Goals as goal

pub returns-in_err-ok_or : goal.returns-in_err-ok_or
returns-in_err-ok_or c =
    let p = err_from_is_err_and c.from_residual.result c.from_residual.ensures.1 in
    let none : c.check_row.result ≡ None = grind arith in
    let why : c.in_err-ok_or.field-0.0 ≡ NotThere = grind arith in
    record {
      replies = λ r e q can on.
          rw (p.1, p.2, why)
          (row_refused can c.args.memory.now c.args.which r on (subst (λ x. good_row x r ≡ false) c.limit.ensures (subst (Checks c.limit.result r) none (c.check_row.ensures r e q))));
      sound = c.requires.desk;
    }

pub returns : goal.returns
returns c =
    let m = c.args.memory.now in
    let w = c.args.which in
    let some : c.check_row.result ≡ Some c.in_ok-ok_or.field-0 = grind arith in
    let good = λ (r : Row) (e : c.args.bytes.now ≡ row_bytes r) (q : carried r ≡ true). subst (λ x. good_row x r ≡ true) c.limit.ensures (subst (Checks c.limit.result r) some (c.check_row.ensures r e q)).0 in
    let small = λ (r : Row) (e : c.args.bytes.now ≡ row_bytes r) (q : carried r ≡ true). small_of (get_or m (limit_at w) 0) r (good r e q) q in
    let is = λ (r : Row) (e : c.args.bytes.now ≡ row_bytes r) (q : carried r ≡ true).
    entered w r m c.store_row-long.new.words c.slot_at-word.result c.slot_after-slot.result c.row_at-at.result c.requires.desk (small r e q)
    c.slot_at-word.ensures c.slot_after-slot.ensures c.row_at-at.ensures (c.store_row-long.ensures.words r e (small r e q))
    c.record_change.new.head c.record_change.ensures in
    let row = c.requires.row in
    record {
      replies = λ r e q can on. row_taken can m w r _ _ on (good r e q) (c.store_row-long.ensures.long r e (small r e q)) (is r e q);
      sound = subst Sound (sym (is row.0 row.1 row.2)) (sound_row_changed w row.0 m c.requires.desk (small row.0 row.1 row.2) (good row.0 row.1 row.2));
    }
