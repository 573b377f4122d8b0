-- Four lines are the piece: the invariant is the definition's loop, run as far as i.
use mathlib.Core.Path.{◌≡◌}
use Prim.Native.Nat.{◌+◌, ◌*◌, ◌≤◌}
use lib.ListN.{length}
use Rattle.loops.specs.Run.{up_to}
use Rattle.plane.specs.Line.{line_at}
use Rattle.line.specs.Rule.{rule}
use Rattle.piece.proofs.piece.Given as goal

abbrev pub invariant-loop-i : goal.invariant-loop-i
invariant-loop-i g l =
    (l.i ≤ 4) × (length l.s ≡ length l.initial.s)
    × (g.P.Pixel.samples l.s ≡ up_to (λ k. line_at l.sample_step (rule l.wd l.fn.t) (l.q + k * l.line_step)) l.i (g.P.Pixel.samples l.initial.s))
