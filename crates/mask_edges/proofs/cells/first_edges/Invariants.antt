-- The lines passed have the block's edge, and the context of its last units.
use Rattle.mask_edges.specs.Folds.{bit_in, block_edge, stores, class_in}
use lib.ListN.{length, get_or}
use mathlib.Core.Path.{◌≡◌}
use Prim.Native.Nat.{◌-◌}
use Rattle.mask_edges.proofs.cells.first_edges.Given as goal

abbrev pub invariant-loop-v : goal.invariant-loop-v
invariant-loop-v l =
    (length l.masks ≡ length l.initial.masks) × (length l.ctx ≡ length l.initial.ctx)
    × (l.masks ≡ block_edge (bit_in l.p) l.v (class_in l.txa l.p 0) (λ i. get_or l.initial.ctx i 0) l.initial.masks) × (l.ctx ≡ stores l.v (class_in l.txa l.p (l.p.across - 1)) l.initial.ctx)
