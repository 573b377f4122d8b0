-- The block's edge, then inner edges unless the block is skipped.
use Rattle.mask_edges.proofs.LoopTurns.{grid-skipped, grid-stepped}
use Rattle.mask_edges.specs.Folds.{bit_in}
use Rattle.mask_edges.proofs.grid.mask_grid.Goals as goal

pub returns-then-skip-clause-masks : goal.returns-then-skip-clause-masks
returns-then-skip-clause-masks c =
    let a = c.args in
    grid-skipped (bit_in a.p) a.p.across a.p.along a.step a.class _ _ _ c.block_edge.ensures.masks c.if-skip.true

pub returns-clause-masks : goal.returns-clause-masks
returns-clause-masks c =
    let a = c.args in
    grid-stepped (bit_in a.p) a.p.across a.p.along a.step a.class _ _ _ c.block_edge.ensures.masks _ c.if-skip.false
    c.step_edges.ensures
