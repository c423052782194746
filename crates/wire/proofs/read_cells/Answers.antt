use Rattle.std.proofs.Common.{◌≡◌, ◌%◌, true, inl, inr, arith}
use Rattle.std.proofs.lemmas.Nat.{one_shl}
use Rattle.encoding.specs.Answers.{clean}
use Rattle.encoding.proofs.Answers.{clean_from, cells_got}
use Rattle.wire.proofs.read_cells.Goals as goal
use Rattle.wire.proofs.read_cells.Goals.{else-used-gt0-via-then-used-gt0+else-bytes-count, else-used-gt0-via-else-used-gt0}

pub returns : goal.returns
returns c =
    let k : clean c.args.count c.args.bytes.now ≡ true = clean_from c.args.count c.args.bytes.now (elim c.else-used-gt0.branch [
      | else-used-gt0-via-then-used-gt0+else-bytes-count w ↦ inr (rw (one_shl (c.args.count % 8) 8 (omega arith)) at w.if-bytes-count.false)
      | else-used-gt0-via-else-used-gt0 w ↦ inl (omega (arith, w.if-used-gt0.false))
    ]) in
    let s = c.in_ok-cells.ensures.cases in
    cells_got c.args.count c.div_ceil-size.result _ c.args.bytes.now c.in_ok-cells.cells.now c.in_ok-cells.rest.now c.padded-bits.result
    c.if-count-gt-MOST_CELLS.false (omega (arith, c.div_ceil-size.ensures)) s.0 k s.1 s.2 c.padded-bits.ensures
