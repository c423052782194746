use Rattle.std.proofs.Common.{◌<◌, ◌^◌, [], sym, rules, arith}
use Rattle.std.proofs.Output.{has_written_of_eq}
use Rattle.encoding.specs.Answers.{bits}
use Rattle.answertext.specs.Answers.{members}
use Rattle.answertext.proofs.Putting.{named_some, some_members, set_none}
use Rattle.answertext.proofs.NamedDisplay.fmt.Goals as goal

pub returns-then-set-eq0-clause-writes : goal.returns-then-set-eq0-clause-writes
returns-then-set-eq0-clause-writes g c = λ p ok.
    has_written_of_eq _ _ [] _ _ (set_none c.args.self.now.set c.args.self.now.word.now c.if-set-eq0.true) (search rules)

pub returns-clause-writes : goal.returns-clause-writes
returns-clause-writes g c = λ p ok.
    let small : c.args.self.now.set < 2 ^ 64 = omega arith in
    has_written_of_eq _ _ _ _ _ (sym (named_some c.args.self.now.word.now (members 0 (bits 64 c.args.self.now.set)) (some_members c.args.self.now.set small c.if-set-eq0.false))) (c.write.ensures.writes p ok)
