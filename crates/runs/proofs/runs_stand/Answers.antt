use Rattle.weave.proofs.Runs.{round_told}
use Rattle.runs.proofs.runs_stand.Goals as goal

pub returns : goal.returns
returns c = round_told
