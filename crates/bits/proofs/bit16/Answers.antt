-- `bits::bit16` meets its contract: a bit shifted within the word is not lost.
use native.Mathlib.Omega.{arith}
use Rattle.bits.proofs.Bits.{one_shl}
use Rattle.bits.proofs.bit16.Goals as goal

pub returns : goal.returns
returns c = one_shl c.args.k 16 (omega arith)
