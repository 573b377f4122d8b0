-- The steps passed have their edges.
use Rattle.mask_edges.specs.Folds.{bit_in, step_edges}
use lib.ListN.{length}
use mathlib.Core.Path.{◌≡◌}
use Rattle.mask_edges.proofs.grid.step_edges.Given as goal

abbrev pub invariant-loop-i : goal.invariant-loop-i
invariant-loop-i l = (length l.masks ≡ length l.initial.masks) × (l.masks ≡ step_edges (bit_in l.p) l.p.along l.step l.class l.i l.initial.masks)
