use Rattle.std.proofs.Common.{◌*◌, ◌%◌, ◌^◌}
use Rattle.weave.proofs.Cloth.{used_below}
use Rattle.lent.specs.Shows.{Shows, draft_in}
use Rattle.lent.proofs.Shown.{shown, shown_ends, shown_picks}
use Rattle.sets.proofs.Members.{bit_one}
use Rattle.layering.proofs.Floating.{floating}
use Rattle.sets.proofs.Drafts.{threading_below, treadling_below}
use Rattle.layers.proofs.Chosen.{rows_used, rows_itself, chosen_none, chosen_some}
use Rattle.layers.proofs.topmost.Goals as goal

pub by_way_of_all-requires : goal.by_way_of_all-requires
by_way_of_all-requires c =
    let d = draft_in c.args.draft in
    let w = shown c.args.draft in
    let u = c.of-used.ensures.uses d w in
    let v : Shows d c.of-used.result.draft = rw c.of-used.ensures.draft w in
    record {
      used = rows_used d c.args.draft w c.of-used.result u c.in_line-all.result c.in_line-all.ensures c.needs.result (c.needs.ensures d v);
      itself = rows_itself d c.args.draft w c.of-used.result u c.in_line-all.result c.in_line-all.ensures c.needs.result (c.needs.ensures d v);
    }

pub returns-then-set-all : goal.returns-then-set-all
returns-then-set-all c = λ d w.
    let u = c.of-used.ensures.uses d w in
    let v : Shows d c.of-used.result.draft = rw c.of-used.ensures.draft w in
    chosen_none d c.args.draft w c.of-used.result u c.in_line-all.result c.in_line-all.ensures c.needs.result (c.needs.ensures d v)
    c.by_way_of_all.result c.by_way_of_all.ensures c.smallest-set.result c.smallest-set.ensures c.if-set-all.true

pub returns-else-set-all : goal.returns-else-set-all
returns-else-set-all c = λ d w.
    let u = c.of-used.ensures.uses d w in
    let v : Shows d c.of-used.result.draft = rw c.of-used.ensures.draft w in
    rw (c.from_line.ensures.shafts, c.from_line.ensures.treadles)
    (chosen_some d c.args.draft w c.of-used.result u c.in_line-all.result c.in_line-all.ensures c.needs.result (c.needs.ensures d v)
    c.by_way_of_all.result c.by_way_of_all.ensures c.smallest-set.result c.smallest-set.ensures c.if-set-all.false)

pub overflow_shl-result : goal.overflow_shl-result
overflow_shl-result c =
    let l = c.of-used.result.draft in
    used_below 64 (draft_in l).threading c.in-Some.shaft (threading_below (draft_in l) l (shown l)) (c.in-Some.ensures (draft_in l) (shown l)).0

pub returns-in-Some : goal.returns-in-Some
returns-in-Some c = λ d w.
    let o = c.in-Some.ensures d (rw c.of-used.ensures.draft w) in
    let small = used_below 64 d.threading c.in-Some.shaft (threading_below d c.args.draft w) o.0 in
    floating d (threading_below d c.args.draft w) (treadling_below d c.args.draft w) (shown_ends d c.args.draft w) (shown_picks d c.args.draft w)
    c.in-Some.shaft o.0 o.1 (1 * 2 ^ c.in-Some.shaft % 2 ^ 64) (λ n. bit_one c.in-Some.shaft n small) o.2
