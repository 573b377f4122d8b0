-- `promised` meets its contract: the promises are proved in Outputs.
use Rattle.list_numbers.proofs.Outputs.{promises}
use Rattle.list_numbers.proofs.promised.Goals as goal

pub returns : goal.returns
returns c = promises
