-- The promises are theorems.
use Rattle.drawn.proofs.Theorems.{promises}
use Rattle.drawn.proofs.promised.Goals as goal

pub returns : goal.returns
returns c = promises
