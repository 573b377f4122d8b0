-- The promises are theorems.
use Rattle.decomp.specs.Promises.{Promises}
use Rattle.decomp.proofs.UnitTransforms.{cells}
use Rattle.decomp.proofs.UnitsOfTransform.{tx_at-same}
use Rattle.decomp.proofs.promised.Goals as goal

promises : Promises
promises = record { told = cells; one = λ ms t x y x' y' h e g. tx_at-same x y x' y' ms t h (e, g) }

pub returns : goal.returns
returns c = promises
