-- `sweep` meets its contract: after rec records the plane has gone through rec of them.
use mathlib.Core.Path.{◌≡◌}
use Prim.Native.Nat.{◌≤◌}
use lib.ListN.{length}
use Rattle.plane.specs.Line.{pass_of}
use Rattle.loops.specs.Run.{up_to}
use Rattle.filter.specs.Filter.{plane_of}
use Rattle.filter.specs.Types.{tables_of, UnderTop}
use Rattle.filter.specs.Lines.{record_sweep}
use Rattle.filter.proofs.sweep.Given as goal

abbrev pub invariant-loop-rec : goal.invariant-loop-rec
invariant-loop-rec g l = (l.rec ≤ l.records) × (length l.dst ≡ length l.initial.dst)
    × (g.P.Pixel.samples l.dst ≡ up_to (λ h. record_sweep (plane_of l.c (tables_of l.t)) (pass_of l.rowwise) l.k h) l.rec (g.P.Pixel.samples l.initial.dst))
    × UnderTop g.P.Pixel.top l.t.depth l.c (pass_of l.rowwise) l.k (g.P.Pixel.samples l.dst)
