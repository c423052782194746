use Rattle.encoding.proofs.Laws.{calls_come_back}
use Rattle.encoding.proofs.calls_come_back.Goals as goal

pub returns : goal.returns
returns c = calls_come_back
