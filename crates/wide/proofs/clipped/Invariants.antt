-- Each sample is taken at its position: the table is filled from the front.
use mathlib.Core.List.{◌++◌}
use mathlib.Core.Path.{◌≡◌}
use Prim.Native.Nat.{◌+◌, ◌-◌, ◌*◌, ◌≤◌}
use lib.ListN.{get_or, drop, replicate}
use Rattle.loops.specs.Table.{tabulate}
use Rattle.standard.specs.Math.{clip}
use Rattle.wide.proofs.clipped.Given as goal

abbrev pub invariant-loop-i : goal.invariant-loop-i
invariant-loop-i l = (l.i ≤ 4 * l.n) × (l.y ≡ tabulate (λ j. get_or l.x (clip (8 - (l.n + 1)) (8 + l.n) (8 - l.n + j - l.n)) 0) l.i ++ drop l.i (replicate 24 0))

abbrev pub decreases-loop-i : goal.decreases-loop-i
decreases-loop-i l = 4 * l.n - l.i
