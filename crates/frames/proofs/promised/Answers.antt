-- `frames::promised` meets its contract: the promises are theorems.
use Rattle.frames.proofs.Theorems.{promises}
use Rattle.frames.proofs.promised.Goals as goal

pub returns : goal.returns
returns c = promises
