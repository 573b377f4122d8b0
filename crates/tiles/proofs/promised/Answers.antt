-- `tiles::promised` meets its contract: the promises are theorems.
use Rattle.tiles.proofs.Theorems.{promises}
use Rattle.tiles.proofs.promised.Goals as goal

pub returns : goal.returns
returns c = promises
