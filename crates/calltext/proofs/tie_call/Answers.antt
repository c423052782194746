use Rattle.std.proofs.Common.{◌++◌, vec_items, ap, ◌∙◌}
use Rattle.calltext.proofs.Saying.{tie_bytes}
use Rattle.calltext.proofs.tie_call.Goals as goal

pub returns : goal.returns
returns c =
    tie_bytes c.args.treadle c.args.shaft (vec_items c.new-call.result) (vec_items c.push.new.self) (vec_items c.extend_from_slice.new.self) (vec_items c.extend_from_slice-2.new.self)
    c.new-call.ensures.items c.in_ok-push.ensures.items
    (c.in_ok-extend_from_slice.ensures.items ∙ ap (λ l. vec_items c.push.new.self ++ l) c.u32_bytes.ensures)
    (c.in_ok-extend_from_slice-2.ensures.items ∙ ap (λ l. vec_items c.extend_from_slice.new.self ++ l) c.u32_bytes-2.ensures)
