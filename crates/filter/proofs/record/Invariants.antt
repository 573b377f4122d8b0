-- `record` meets its contract: after a lines the plane has gone along a of them.
use mathlib.Core.Path.{◌≡◌}
use Prim.Native.Nat.{◌≤◌}
use lib.ListN.{length}
use Rattle.plane.specs.Line.{pass_of}
use Rattle.loops.specs.Run.{up_to}
use Rattle.filter.specs.Filter.{plane_of, line_of}
use Rattle.filter.specs.Types.{tables_of, UnderTop}
use Rattle.filter.proofs.record.Given as goal

abbrev pub invariant-loop-a : goal.invariant-loop-a
invariant-loop-a g l = (l.first ≤ l.a) × (l.a ≤ l.n) × (length l.dst ≡ length l.initial.dst)
    × (g.P.Pixel.samples l.dst ≡ up_to (line_of (plane_of l.c (tables_of l.t)) (pass_of l.rowwise) l.k l.rec) l.a (g.P.Pixel.samples l.initial.dst))
    × UnderTop g.P.Pixel.top l.t.depth l.c (pass_of l.rowwise) l.k (g.P.Pixel.samples l.dst)
