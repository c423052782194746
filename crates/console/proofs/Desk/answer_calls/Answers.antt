use Rattle.std.proofs.Common.{vec_items, ap, ◌∙◌}
use Rattle.wire.specs.Answers.{answer_of}
use Rattle.console.proofs.Lines.{after_more, text_more, after_all, text_all}
use Rattle.console.proofs.Desk.answer_calls.Goals as goal

pub loop-bytes-preserved : goal.loop-bytes-preserved
loop-bytes-preserved c =
    let b = c.deref.ensures.value ∙ ap vec_items c.bytes-item.is in (
      c.ask-told.ensures.same_reference ∙ c.loop-bytes.invariant.0,
      after_more vec_items c.args.calls.now c.loop-bytes.bytes-index _ c.loop-bytes.self.memory.now c.ask-told.new.self.memory.now c.deref.result.now c.loop-bytes-test.true b c.ask-told.ensures.memory _ c.loop-bytes.invariant.1,
      text_more vec_items c.args.calls.now c.loop-bytes.bytes-index _ c.loop-bytes.self.memory.now c.ask-told.new.self.memory.now c.deref.result.now c.loop-bytes-test.true b c.ask-told.ensures.memory
          c.args.line (answer_of c.ask-told.result) _ c.loop-bytes.text.items c.put_line.new.text.items c.loop-bytes.invariant.2 c.ask-told.ensures.answer c.in_ok-put_line.ensures,
    )

pub returns-clause-done : goal.returns-clause-done
returns-clause-done c = (
  after_all vec_items c.args.calls.now c.loop-bytes.bytes-index c.loop-bytes.self.memory.now _ c.loop-bytes-test.false c.loop-bytes.invariant.1,
  text_all vec_items c.args.calls.now c.loop-bytes.bytes-index c.args.line c.loop-bytes.self.memory.now _ c.loop-bytes.text.items c.loop-bytes-test.false c.loop-bytes.invariant.2,
)
