-- `columns_16` meets its contract: it is `pass` of its arguments' call.
use native.Mathlib.Omega.{arith}
use lib.Pow.{pow_mono}
use Rattle.apply.proofs.Answers.{of-call}
use Rattle.apply.proofs.columns_16.Goals as goal

pub pass-requires : goal.pass-requires
pass-requires c h = omega (arith, pow_mono h)

pub returns : goal.returns
returns c =
    of-call c.call-c.ensures c.pass.ensures
