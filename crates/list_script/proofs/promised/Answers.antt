-- `promised` meets its contract: the promises are proved in Said.
use Rattle.list_script.proofs.LinesSaid.{promises}
use Rattle.list_script.proofs.promised.Goals as goal

pub returns : goal.returns
returns c = promises
