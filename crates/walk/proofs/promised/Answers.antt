-- `promised` meets its contract: the promises are proved in Laws.
use Rattle.walk.proofs.Laws.{promises}
use Rattle.walk.proofs.promised.Goals as goal

pub returns : goal.returns
returns c = promises
