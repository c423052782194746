use Rattle.encoding.proofs.Laws.{answers_come_back}
use Rattle.encoding.proofs.answers_come_back.Goals as goal

pub returns : goal.returns
returns c = answers_come_back
