-- `promised` meets its contract: the promises are proved in Answers.
use Rattle.limits.proofs.Answers.{promises}
use Rattle.limits.proofs.promised.Goals as goal

pub returns : goal.returns
returns c = promises
