-- The lines passed have their inner edges.
use Rattle.mask_edges.specs.Folds.{bit_in, line_edges, class_in, step_in}
use lib.ListN.{length}
use mathlib.Core.Path.{◌≡◌}
use Rattle.mask_edges.proofs.cells.inner_edges.Given as goal

abbrev pub invariant-loop-v : goal.invariant-loop-v
invariant-loop-v l = (length l.masks ≡ length l.initial.masks) × (l.masks ≡ line_edges (bit_in l.p) l.p.across (class_in l.txa l.p) (step_in l.txa l.p) l.v l.initial.masks)
