-- `bits::clear_bit` meets its contract, by that of `without`.
use mathlib.Core.Path.{refl}
use Rattle.bits.specs.Mark.{unmark}
use Rattle.bits.proofs.clear_bit.Goals as goal

pub returns : goal.returns
unfolding unmark
returns c = rw c.without.ensures refl
