-- `promised` meets its contract: the promises are proved in NumbersMean.
use Rattle.scans.proofs.NumbersMean.{promises}
use Rattle.scans.proofs.promised.Goals as goal

pub returns : goal.returns
returns c = promises
