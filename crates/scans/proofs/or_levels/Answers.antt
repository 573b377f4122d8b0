-- `or_levels` meets its contract: the lines passed are or-ed together; `lines-in` bounds their places.
use mathlib.Core.Path.{refl}
use native.Mathlib.Omega.{arith}
use Rattle.bits.proofs.Words.{or-none, or-more}
use Rattle.scans.proofs.or_levels.Goals as goal

pub loop-i-init : goal.loop-i-init
loop-i-init c = (omega arith, or-none _)

pub loop-i-preserved : goal.loop-i-preserved
loop-i-preserved c = (omega arith, or-more _ _ _ _ _ c.loop-i.invariant.1 c.or_units-acc.ensures refl)
