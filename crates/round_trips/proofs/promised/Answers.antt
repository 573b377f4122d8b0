-- `promised` meets its contract: the promises are proved in Kept.
use Rattle.round_trips.proofs.Kept.{promises}
use Rattle.round_trips.proofs.promised.Goals as goal

pub returns : goal.returns
returns c = promises
