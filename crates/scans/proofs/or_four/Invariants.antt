-- `or_four` meets its contract: the places passed are or-ed together.
use mathlib.Core.Path.{◌≡◌}
use Prim.Native.Nat.{◌≤◌}
use Rattle.bits.specs.Word.{or_below}
use Rattle.scans.specs.Or.{four_lines}
use Rattle.scans.proofs.or_four.Given as goal

abbrev pub invariant-loop-x : goal.invariant-loop-x
invariant-loop-x g l = (l.x ≤ l.w) × (l.acc ≡ or_below l.x (four_lines (g.P.Pixel.samples l.s) l.a l.b l.c l.d))
