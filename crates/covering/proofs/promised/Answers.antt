-- The promises are theorems.
use Rattle.covering.proofs.Theorems.{promises}
use Rattle.covering.proofs.promised.Goals as goal

pub returns : goal.returns
returns c = promises
