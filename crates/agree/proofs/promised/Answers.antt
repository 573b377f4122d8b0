-- The promises are theorems.
use Rattle.agree.proofs.Theorems.{promises}
use Rattle.agree.proofs.promised.Goals as goal

pub returns : goal.returns
returns c = promises
