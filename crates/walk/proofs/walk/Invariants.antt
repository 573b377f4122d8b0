-- The set places are visited, lowest first: the invariant is the walk, run as far as the bit has moved.
use mathlib.Core.Path.{◌≡◌}
use lib.ListN.{length}
use Rattle.bits.specs.Walk.{ahead}
use Rattle.walk.proofs.WalkLoop.{Moved}
use Rattle.walk.proofs.walk.Given as goal

abbrev pub invariant-loop-xy : goal.invariant-loop-xy
invariant-loop-xy g l =
    Moved l.depth l.e l.i l.levels l.l (g.P.Pixel.samples l.initial.dst) (g.P.Pixel.samples l.dst) l.xy l.n × (length l.dst ≡ length l.initial.dst)

abbrev pub decreases-loop-xy : goal.decreases-loop-xy
decreases-loop-xy g l = ahead l.xy
