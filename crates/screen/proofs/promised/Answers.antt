-- The promises are theorems.
use Rattle.screen.proofs.Theorems.{promises}
use Rattle.screen.proofs.promised.Goals as goal

pub returns : goal.returns
returns c = promises
