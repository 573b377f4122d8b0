-- `promised` meets its contract: the promises are proved in Answers.
use Rattle.levels.proofs.Answers.{promises}
use Rattle.levels.proofs.promised.Goals as goal

pub returns : goal.returns
returns c = promises
