-- `promised` meets its contract: the promises are proved in Answers.
use Rattle.list_call.proofs.Answers.{promises}
use Rattle.list_call.proofs.promised.Goals as goal

pub returns : goal.returns
returns c = promises
