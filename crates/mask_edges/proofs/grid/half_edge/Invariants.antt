-- The units passed have their edge and their context, whatever the masks and the context were before the first of them.
use mathlib.Core.List.{List}
use mathlib.Core.Path.{◌≡◌}
use Prim.Native.Nat.{ℕ, ◌≤◌}
use lib.ListN.{length}
use Rattle.mask_edges.specs.Folds.{Edged}
use Rattle.mask_edges.proofs.grid.half_edge.Given as goal

abbrev pub invariant-loop-v : goal.invariant-loop-v
invariant-loop-v l =
    ((l.from ≤ l.v) × (l.v ≤ l.to)) × (length l.masks ≡ length l.initial.masks) × (length l.ctx ≡ length l.initial.ctx)
    × ((c ms : List ℕ) → Edged l.p l.class c ms l.from l.initial.ctx l.initial.masks → Edged l.p l.class c ms l.v l.ctx l.masks)
