-- `promised` meets its contract: the promises are proved in Numerals.
use Rattle.list_decimal.proofs.Numerals.{promises}
use Rattle.list_decimal.proofs.promised.Goals as goal

pub returns : goal.returns
returns c = promises
