-- `promised` meets its contract: the promises are proved in Numbers.
use Rattle.checks.proofs.Numbers.{numbers}
use Rattle.checks.proofs.promised.Goals as goal

pub returns : goal.returns
returns c = numbers
