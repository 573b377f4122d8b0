-- `promised` meets its contract: the promises are proved in Laws.
use Rattle.apply.proofs.Laws.{promises}
use Rattle.apply.proofs.promised.Goals as goal

pub returns : goal.returns
returns c = promises
