-- `bits::run_word` meets its contract: neither bit is shifted out of the word.
use native.Mathlib.Omega.{arith}
use mathlib.Core.Path.{refl}
use Prim.Native.Nat.{◌+◌}
use lib.Pow.{pow_mono}
use Rattle.bits.proofs.Bits.{one_shl}
use Rattle.bits.proofs.run_word.Goals as goal

pub overflow_sub-result : goal.overflow_sub-result
overflow_sub-result c =
    rw (one_shl c.args.k 64 (omega arith), one_shl (c.args.n + c.args.k) 64 (omega arith)) (pow_mono (omega arith))

pub returns : goal.returns
returns c = rw (one_shl c.args.k 64 (omega arith), one_shl (c.args.n + c.args.k) 64 (omega arith)) refl
