-- The promises are theorems.
use Rattle.mask_edges.proofs.Theorems.{promises}
use Rattle.mask_edges.proofs.promised.Goals as goal

pub returns : goal.returns
returns c = promises
