-- `bits::test_bit` meets its contract, by that of `has`.
use Rattle.bits.specs.Mark.{is_set}
use Rattle.bits.proofs.test_bit.Goals as goal

pub returns : goal.returns
unfolding is_set
returns c = c.has.ensures
