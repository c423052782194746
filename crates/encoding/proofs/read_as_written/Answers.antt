use Rattle.encoding.proofs.Laws.{read_as_written}
use Rattle.encoding.proofs.read_as_written.Goals as goal

pub returns : goal.returns
returns c = read_as_written
