use Rattle.std.proofs.Common.{sym, ap, ◌∙◌, rules}
use Rattle.encoding.specs.Numbers.{placed}
use Rattle.encoding.specs.Answers.{answer_bytes}
use Rattle.encoding.proofs.Answers.{over_bytes}
use Rattle.wire.specs.declared.Answer.{Answer}
use Rattle.wire.specs.Answers.{answer_of}
use Rattle.wire.proofs.write_answer.Goals as goal

pub returns-in-Over-clause-bytes : goal.returns-in-Over-clause-bytes
returns-in-Over-clause-bytes c =
    c.put_over.ensures.bytes ∙ ap (placed c.args.out.now 0) (sym (ap (λ (a : Answer). answer_bytes (answer_of a)) c.in-Over.is ∙ over_bytes 64 64 _ _ (search rules) (search rules)))
