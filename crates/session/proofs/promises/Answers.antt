use Rattle.desks.proofs.Promised.{right_at, refusal_at}
use Rattle.desks.proofs.Fits.{memory_at}
use Rattle.session.specs.Session.{stage}
use Rattle.session.proofs.promises.Goals as goal

pub returns : goal.returns
returns c = record { right = right_at stage; refusal = refusal_at stage; memory = memory_at stage }
