use Rattle.encoding.proofs.Numbers.{taken_more, taken_all}
use Rattle.wire.proofs.take_numbers.Goals as goal

pub loop-n-preserved : goal.loop-n-preserved
loop-n-preserved g c = taken_more _ _ _ _ _ _ _ c.loop-n-test.true c.loop-n.invariant c.in_ok-number.ensures

pub returns : goal.returns
returns g c = taken_all _ _ _ _ _ c.loop-n-test.false c.loop-n.auto.n-index-end c.loop-n.invariant
