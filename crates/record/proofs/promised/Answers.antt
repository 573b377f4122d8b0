-- `promised` meets its contract: the promises are proved in Answers.
use Rattle.record.proofs.Answers.{promises}
use Rattle.record.proofs.promised.Goals as goal

pub returns : goal.returns
returns c = promises
