-- Each output is the standard's: its taps find their samples at the clipped positions, and the weights add up to what the sum is divided by.
use mathlib.Core.List.{◌++◌}
use mathlib.Core.Path.{◌≡◌}
use Prim.Native.Nat.{◌+◌, ◌-◌, ◌*◌, ◌≤◌}
use lib.IntN.{pos, nat_abs}
use lib.ListN.{get_or, drop, replicate}
use Rattle.loops.specs.Table.{tabulate}
use Rattle.standard.specs.Math.{Round2, sum_to}
use Rattle.standard.specs.Wide.{tap}
use Rattle.wide.proofs.wide.Given as goal

abbrev pub invariant-loop-i : goal.invariant-loop-i
invariant-loop-i l = (l.i ≤ 2 * l.n) × (l.f ≡ tabulate (λ k. nat_abs (Round2 (pos (sum_to (λ j. tap l.n l.n2 j * get_or l.y (k + j) 0) (2 * l.n + 1))) l.log2)) l.i ++ drop l.i (replicate 12 0))

abbrev pub decreases-loop-i : goal.decreases-loop-i
decreases-loop-i l = 2 * l.n - l.i
