-- `own_row::promised` meets its contract: the promises are theorems.
use Rattle.own_row.proofs.Theorems.{promises}
use Rattle.own_row.proofs.promised.Goals as goal

pub returns : goal.returns
returns c = promises
