-- `promised` meets its contract: the promises are proved in Lists.
use Rattle.list_edges.proofs.Lists.{promises}
use Rattle.list_edges.proofs.promised.Goals as goal

pub returns : goal.returns
returns c = promises
