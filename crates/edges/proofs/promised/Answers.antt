-- `promised` meets its contract: the promises are proved in Classes.
use Rattle.edges.proofs.Classes.{promises}
use Rattle.edges.proofs.promised.Goals as goal

pub returns : goal.returns
returns c = promises
