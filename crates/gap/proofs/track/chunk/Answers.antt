-- `chunk` meets its contract: the units passed have been taken on, one by one.
use mathlib.Core.Path.{refl}
use native.Mathlib.Omega.{arith}
use Rattle.gap.specs.Track.{run_t}
use Rattle.gap.proofs.Walks.{run_more}
use Rattle.gap.proofs.track.chunk.Goals as goal

pub loop-i-init : goal.loop-i-init
unfolding run_t
loop-i-init c = (omega arith, refl)

pub loop-i-preserved : goal.loop-i-preserved
loop-i-preserved c = (omega arith, run_more _ _ _ _ _ _ _ _ _ _ c.loop-i.invariant.1 c.unit_at-t.ensures)
