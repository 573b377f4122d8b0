-- `bits::set_bit` meets its contract, by that of `bit16`.
use Rattle.bits.specs.Mark.{mark}
use Rattle.bits.proofs.set_bit.Goals as goal

pub returns : goal.returns
unfolding mark
returns c = rw c.bit16.ensures
