-- `promised` meets its contract: the promises are proved in Sweeps.
use Rattle.filter.proofs.Sweeps.{promises}
use Rattle.filter.proofs.promised.Goals as goal

pub returns : goal.returns
returns c = promises
