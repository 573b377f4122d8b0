-- `place_bad` meets its contract: a block's sides are not 0.
use native.Mathlib.Omega.{arith}
use Rattle.units.proofs.Rules.{block-rule}
use Rattle.block.proofs.faults.place_bad.Goals as goal

pub nonzero_rem-odd : goal.nonzero_rem-odd
nonzero_rem-odd c = omega (arith, c.requires.1, (block-rule c.args.b.size c.requires.0.2).width.low)

pub nonzero_rem-odd-2 : goal.nonzero_rem-odd-2
nonzero_rem-odd-2 c = omega (arith, c.requires.2, (block-rule c.args.b.size c.requires.0.2).height.low)
