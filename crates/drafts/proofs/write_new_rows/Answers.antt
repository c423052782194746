use Rattle.std.proofs.Common.{◌≡◌, refl, arith}
use Rattle.desks.specs.Keepers.{new_rows}
use Rattle.drafts.proofs.Opens.{row_more, rows_all}
use Rattle.drafts.proofs.write_new_rows.Goals as goal

pub loop-k-init : goal.loop-k-init
unfolding new_rows
loop-k-init c = refl

pub loop-k-preserved : goal.loop-k-preserved
loop-k-preserved c = row_more c.loop-k.k _ c.loop-k.parts c.args.parts.now c.write_new_row.new.part c.loop-k.invariant (omega arith) c.write_new_row.ensures

pub returns : goal.returns
returns c =
    let e : c.loop-k.k ≡ c.args.n = omega arith in
    rows_all c.args.n c.loop-k.k c.loop-k.parts c.args.parts.now e c.loop-k.invariant c.requires
