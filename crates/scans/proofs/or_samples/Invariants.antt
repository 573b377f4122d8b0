-- `or_samples` meets its contract: the fours of lines passed are or-ed together; `lines-in` bounds their places.
use mathlib.Core.Path.{◌≡◌}
use Prim.Native.Nat.{◌≤◌}
use Rattle.scans.specs.Or.{or_samples}
use Rattle.scans.proofs.or_samples.Given as goal

abbrev pub invariant-loop-i : goal.invariant-loop-i
invariant-loop-i g l = (l.i ≤ l.n) × (l.acc ≡ or_samples (g.P.Pixel.samples l.s) l.stride l.w l.first l.i)
