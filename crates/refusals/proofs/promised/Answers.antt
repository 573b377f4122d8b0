-- `promised` meets its contract: the promises are proved in Numbers.
use Rattle.refusals.proofs.Numbers.{promises}
use Rattle.refusals.proofs.promised.Goals as goal

pub returns : goal.returns
returns c = promises
