-- `order::promised` meets its contract: the promises are theorems.
use Rattle.order.proofs.Theorems.{promises}
use Rattle.order.proofs.promised.Goals as goal

pub returns : goal.returns
returns c = promises
