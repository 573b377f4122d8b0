-- The terms are summed tap after tap, and the sum fits: no weight is above 2.
use mathlib.Core.Path.{◌≡◌}
use Prim.Native.Nat.{◌+◌, ◌-◌, ◌*◌, ◌≤◌}
use lib.ListN.{get_or}
use Rattle.standard.specs.Math.{sum_to}
use Rattle.standard.specs.Wide.{tap}
use Rattle.wide.proofs.sum.Given as goal

abbrev pub invariant-loop-j : goal.invariant-loop-j
invariant-loop-j l = (l.j ≤ 2 * l.n + 1) × (l.t ≡ sum_to (λ k. tap l.n l.n2 k * get_or l.y (l.i + k) 0) l.j)

abbrev pub decreases-loop-j : goal.decreases-loop-j
decreases-loop-j l = 2 * l.n + 1 - l.j
