-- `blocks::promised` meets its contract: the promises are theorems.
use Rattle.blocks.proofs.Theorems.{promises}
use Rattle.blocks.proofs.promised.Goals as goal

pub returns : goal.returns
returns c = promises
