-- `bits::without` meets its contract, by that of `bit16`.
use mathlib.Core.Path.{refl}
use Rattle.bits.proofs.without.Goals as goal

pub returns : goal.returns
returns c = rw c.bit16.ensures refl
