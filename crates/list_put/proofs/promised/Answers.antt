-- `promised` meets its contract: the promise is proved in Lengths.
use Rattle.list_put.proofs.Lengths.{promises}
use Rattle.list_put.proofs.promised.Goals as goal

pub returns : goal.returns
returns c = promises
