-- `promised` meets its contract: the promises are proved in Outcomes.
use Rattle.list_steps.proofs.Outcomes.{promises}
use Rattle.list_steps.proofs.promised.Goals as goal

pub returns : goal.returns
returns c = promises
