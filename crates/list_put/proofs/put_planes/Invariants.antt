-- After each plane its edges are written too.
use Prim.Native.Nat.{◌≤◌}
use Rattle.loops.specs.Run.{cat}
use Rattle.list_put.specs.Written.{held_of, plane_in, Wrote}
use Rattle.list_put.proofs.put_planes.Given as goal

abbrev pub invariant-loop-plane : goal.invariant-loop-plane
invariant-loop-plane l =
    (l.plane ≤ l.n) × Wrote l.initial.text l.initial.listed (cat (plane_in (held_of l.frame.layout l.frame.w4.0 l.frame.h4.0 l.levels l.masks)) l.plane) l.text l.listed
