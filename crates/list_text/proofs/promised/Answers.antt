-- `promised` meets its contract: the promises are proved in Puts.
use Rattle.list_text.proofs.Puts.{promises}
use Rattle.list_text.proofs.promised.Goals as goal

pub returns : goal.returns
returns c = promises
