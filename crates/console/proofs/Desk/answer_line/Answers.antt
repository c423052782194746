use Rattle.std.proofs.Common.{◌≡◌, map, vec_items}
use Rattle.std.proofs.lemmas.Result.{on_ok_weaker}
use Rattle.calltext.specs.Lines.{line_says, nothing, unreadable}
use Rattle.calltext.specs.Results.{AreCalls}
use Rattle.console.proofs.Lines.{nothing_said, calls_said, unreadable_said}
use Rattle.console.proofs.Desk.answer_line.Goals as goal

pub returns-in-Ok-None-clause-done : goal.returns-in-Ok-None-clause-done
returns-in-Ok-None-clause-done c =
    let said : line_says c.args.line.now ≡ nothing = rw c.in-Ok-None.field-0-is at c.in-Ok-None.ensures in
    nothing_said c.args.self.now.memory.now c.args.text.now.items c.args.number (line_says c.args.line.now) said

pub returns-in-Ok-Some-clause-done : goal.returns-in-Ok-Some-clause-done
returns-in-Ok-Some-clause-done c =
    let said : AreCalls (line_says c.args.line.now) (map vec_items c.deref.result.now) = rw c.deref.ensures.value (rw c.in-Ok-Some.field-0-is at c.in-Ok-Some.ensures) in
    on_ok_weaker c.answer_calls.result
    (calls_said c.args.self.now.memory.now c.args.text.now.items c.args.number (line_says c.args.line.now) (map vec_items c.deref.result.now) c.answer_calls.new.self.memory.now c.answer_calls.new.text.items said)
    c.answer_calls.ensures.done

pub returns-in-Err-Unreadable-clause-done : goal.returns-in-Err-Unreadable-clause-done
returns-in-Err-Unreadable-clause-done c =
    let said : line_says c.args.line.now ≡ unreadable = rw c.in-Err-Unreadable.field-0-is at c.in-Err-Unreadable.ensures in
    on_ok_weaker c.put_line.result
    (unreadable_said c.args.self.now.memory.now c.args.text.now.items c.args.number (line_says c.args.line.now) c.put_line.new.text.items said)
    c.put_line.ensures
