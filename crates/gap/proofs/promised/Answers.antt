-- `promised` meets its contract: the promises are proved in Told.
use Rattle.gap.proofs.NumbersMean.{promises}
use Rattle.gap.proofs.promised.Goals as goal

pub returns : goal.returns
returns c = promises
