-- The place is that of the pass.
use Rattle.mask_edges.proofs.Walks.{cell-across, cell-down}
use lib.ListN.{get_or}
use Prim.Native.Nat.{ℕ}
use mathlib.Core.Path.{ap}
use Rattle.mask_edges.proofs.cells.cell.Goals as goal

pub returns-then-rowwise : goal.returns-then-rowwise
returns-then-rowwise c = ap (λ (k : ℕ). get_or c.args.txa.now k 0) (cell-down _ _ _ _ c.if-rowwise.true)

pub returns : goal.returns
returns c = ap (λ (k : ℕ). get_or c.args.txa.now k 0) (cell-across _ _ _ _ c.if-rowwise.false)
