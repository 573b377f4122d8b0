-- After y lines the edges of y lines are written.
use Prim.Native.Nat.{◌≤◌}
use Rattle.loops.specs.Run.{cat}
use Rattle.plane.specs.Line.{pass_of}
use Rattle.list_put.specs.Written.{Wrote, held_in, line_in}
use Rattle.list_put.proofs.put_pass.Given as goal

abbrev pub invariant-loop-y : goal.invariant-loop-y
invariant-loop-y l = (l.y ≤ l.n) × Wrote l.initial.text l.initial.listed (cat (line_in (held_in l.p l.levels l.masks) l.p.plane (pass_of l.p.rowwise)) l.y) l.text l.listed
