-- The block's edge, then inner edges unless the block is skipped.
use Rattle.mask_edges.proofs.Walks.{cells-skipped, cells-walked}
use Rattle.mask_edges.specs.Folds.{bit_in, class_in, step_in}
use Rattle.mask_edges.proofs.cells.mask_cells.Goals as goal

pub returns-then-skip-clause-masks : goal.returns-then-skip-clause-masks
returns-then-skip-clause-masks c =
    let a = c.args in
    cells-skipped (bit_in a.p) a.p.across (class_in a.txa.now a.p) (step_in a.txa.now a.p) a.p.along _ _ _
    c.first_edges.ensures.masks c.if-skip.true

pub returns-clause-masks : goal.returns-clause-masks
returns-clause-masks c =
    let a = c.args in
    cells-walked (bit_in a.p) a.p.across (class_in a.txa.now a.p) (step_in a.txa.now a.p) a.p.along _ _ _
    c.first_edges.ensures.masks _ c.if-skip.false c.inner_edges.ensures
