use Rattle.std.proofs.Common.{◌≡◌, ◌<◌, length, string_bytes, vec_items, rules}
use Rattle.rowprint.proofs.Printing.{row_over, is_printed}
use Rattle.rowprint.proofs.print_row.Goals as goal

pub returns-then-not-is_empty : goal.returns-then-not-is_empty
returns-then-not-is_empty c =
    let some : 0 < length c.in_ok-rest.rest.now = search rules in
    row_over c.args.row.now c.in_ok-rest.rest.now some (λ r rest e f h. (c.in_ok-rest.ensures.told r rest e f h).0)

pub returns : goal.returns
returns c =
    let none : length c.in_ok-rest.rest.now ≡ 0 = search rules in
    is_printed c.args.row.now c.in_ok-rest.rest.now (string_bytes c.in_ok-to_string.field-0) (vec_items c.push_row.new.out) (vec_items c.new-tokens.result) c.deref.result.now none
    c.in_ok-rest.ensures.found (λ r rest e f h. (c.in_ok-rest.ensures.told r rest e f h).1) c.new-tokens.ensures.items c.deref.ensures.value c.in_ok-to_string.ensures.ok
