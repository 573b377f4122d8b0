-- After x units the edges of x units are written.
use Prim.Native.Nat.{◌≤◌}
use Rattle.loops.specs.Run.{cat}
use Rattle.plane.specs.Line.{pass_of}
use Rattle.list_edges.specs.Listed.{edges_at}
use Rattle.list_put.specs.Written.{Wrote, held_in}
use Rattle.list_put.proofs.put_line.Given as goal

abbrev pub invariant-loop-x : goal.invariant-loop-x
invariant-loop-x l = (l.x ≤ l.n) × Wrote l.initial.text l.initial.listed (cat (λ x. edges_at (held_in l.p l.levels l.masks) l.p.plane (pass_of l.p.rowwise) x l.y) l.x) l.text l.listed
