-- `promised` meets its contract: the promises are proved in Told.
use Rattle.correct.proofs.AnswerLaws.{promises}
use Rattle.correct.proofs.promised.Goals as goal

pub returns : goal.returns
returns c = promises
