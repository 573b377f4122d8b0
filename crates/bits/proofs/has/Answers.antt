-- `bits::has` meets its contract: the code is the definition.
use mathlib.Core.Path.{refl}
use Rattle.bits.specs.Bit.{has_bit}
use Rattle.bits.proofs.has.Goals as goal

pub returns : goal.returns
unfolding has_bit
returns c = refl
