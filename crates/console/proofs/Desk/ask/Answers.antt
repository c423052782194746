use Rattle.wire.specs.Answers.{answer_of}
use Rattle.console.proofs.Telling.{told_none, told_some}
use Rattle.console.proofs.Desk.ask.Goals as goal

pub returns-in-Some-clause-answer : goal.returns-in-Some-clause-answer
returns-in-Some-clause-answer c =
    told_some c.args.self.now.memory.now c.args.bytes.now c.call.new.answer c.in-Some.field-0-1.now c.args.line (answer_of c.in-Some.told) (answer_of c.at_line.result)
    c.call.ensures.answer c.in-Some.ensures.0 c.at_line.ensures

pub returns-in-None-clause-answer : goal.returns-in-None-clause-answer
returns-in-None-clause-answer c = told_none c.args.self.now.memory.now c.args.bytes.now c.call.new.answer c.args.line c.call.ensures.answer c.in-None.ensures
