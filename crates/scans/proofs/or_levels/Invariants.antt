-- `or_levels` meets its contract: the lines passed are or-ed together; `lines-in` bounds their places.
use mathlib.Core.Path.{◌≡◌}
use Prim.Native.Nat.{◌≤◌}
use Rattle.scans.specs.Or.{or_levels}
use Rattle.scans.proofs.or_levels.Given as goal

abbrev pub invariant-loop-i : goal.invariant-loop-i
invariant-loop-i l = (l.i ≤ l.n) × (l.acc ≡ or_levels l.levels l.level_stride l.w l.first l.i)
