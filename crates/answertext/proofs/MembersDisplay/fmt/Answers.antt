use Rattle.std.proofs.Common.{◌∷◌, ◌++◌, decimal, arith, rules}
use Rattle.std.proofs.lemmas.Bool.{eq-eqb, ne_eqb}
use Rattle.std.proofs.Output.{has_written_append, has_written_of_eq}
use Rattle.answertext.proofs.Putting.{member_more, member_not, members_end}
use Rattle.answertext.proofs.MembersDisplay.fmt.Goals as goal
use Rattle.answertext.proofs.MembersDisplay.fmt.Goals.{then-self-i-eq1+in_ok-write, else-self-i-eq1}

pub loop-i-preserved : goal.loop-i-preserved
loop-i-preserved g c = λ p.
    let h = c.loop-i.invariant p in
    let i = c.loop-i.i-counter in
    elim c.if-self-i-eq1.branch [
      | then-self-i-eq1+in_ok-write w ↦ rw w.f-is (
        h.0 ++ (32 ∷ decimal i),
        has_written_append _ _ _ _ _ _ h.1 (search rules),
        member_more c.args.self.now.0 i _ h.0 (omega arith) h.2 (eq-eqb _ 1 w.if-self-i-eq1.true),
      )
      | else-self-i-eq1 w ↦ rw w.f-is (h.0, h.1, member_not c.args.self.now.0 i _ h.0 (omega arith) h.2 (ne_eqb _ 1 w.if-self-i-eq1.false))
    ]

pub returns-clause-writes : goal.returns-clause-writes
returns-clause-writes g c = λ p ok.
    let h = c.loop-i.invariant p in
    has_written_of_eq _ _ _ _ _ (members_end c.args.self.now.0 c.loop-i.i-counter _ h.0 (omega arith) h.2) h.1
