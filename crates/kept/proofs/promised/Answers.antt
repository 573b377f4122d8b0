-- `kept::promised` meets its contract: the promises are theorems.
use Rattle.kept.proofs.Theorems.{promises}
use Rattle.kept.proofs.promised.Goals as goal

pub returns : goal.returns
returns c = promises
