use Rattle.calltext.proofs.Back.{lines_read_back}
use Rattle.calltext.proofs.lines_read_back.Goals as goal

pub returns : goal.returns
returns c = lines_read_back
