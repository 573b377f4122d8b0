-- The promises are theorems.
use Rattle.recorded_edges.proofs.Theorems.{promises}
use Rattle.recorded_edges.proofs.promised.Goals as goal

pub returns : goal.returns
returns c = promises
