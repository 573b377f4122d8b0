-- `correct_line` meets its contract: after i units the masks are those of i units corrected.
use mathlib.Core.Path.{◌≡◌}
use lib.ListN.{length}
use Rattle.plane.specs.Line.{pass_of}
use Rattle.correct.specs.Correct.{correct_line, grid_in}
use Rattle.correct.proofs.edge.correct_line.Given as goal

abbrev pub invariant-loop-i : goal.invariant-loop-i
invariant-loop-i l = (length l.masks ≡ length l.initial.masks) × (l.masks ≡ correct_line (grid_in l.l) (pass_of l.l.rowwise) l.l.across l.l.first l.i l.context l.initial.masks)
