use Rattle.rowtext.proofs.Back.{reads_back}
use Rattle.rowtext.proofs.rows_read_back.Goals as goal

pub returns : goal.returns
returns c = reads_back
