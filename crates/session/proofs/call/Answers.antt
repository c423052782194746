use Rattle.std.proofs.Common.{◌-◌, length, ap, ◌∙◌, arith}
use Rattle.encoding.specs.Numbers.{placed}
use Rattle.wire.specs.Answers.{answer_of}
use Rattle.wire.specs.Calls.{call_of}
use Rattle.session.specs.Session.{Told}
use Rattle.session.proofs.Asked.{told_front, told_garbled}
use Rattle.session.proofs.call.Goals.{in-Ok, in-Err}
use Rattle.session.proofs.call.Goals as goal

pub returns : goal.returns
returns c =
    let told : Told c.args.memory.now c.args.bytes.now (answer_of c.match-read_call.told) c.match-read_call.memory =
    elim c.match-read_call.branch [
      | in-Ok w ↦
          let read = w.in-Ok.ensures in
          rw w.told-is
          (told_front c.args.memory.now c.args.bytes.now (w.desk_words-end.result - 0) (call_of w.in-Ok.call) (answer_of w.take-told.result) w.take-told.new.desk c.match-read_call.memory c.requires
          (omega (arith, w.desk_words-end.ensures)) read.0 read.1 w.take-told.ensures w.memory-is)
      | in-Err w ↦ rw w.told-is (told_garbled c.args.memory.now c.args.bytes.now c.match-read_call.memory w.in-Err.place c.requires w.in-Err.ensures w.memory-is)
    ] in
    record {
      count = c.write_answer.ensures.count ∙ ap length told.bytes;
      answer = c.write_answer.ensures.bytes ∙ ap (placed c.args.answer.now 0) told.bytes;
      memory = told.words;
      ready = told.ready;
    }
