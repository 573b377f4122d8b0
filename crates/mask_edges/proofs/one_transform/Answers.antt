-- Two passes over one transform's grid.
use Rattle.mask_edges.proofs.BlockPasses.{grid-both}
use Rattle.units.specs.Sizes.{luma_class}
use Rattle.mask_edges.proofs.one_transform.Goals as goal

pub returns-clause-masks : goal.returns-clause-masks
returns-clause-masks c =
    λ t w h. grid-both _ _ _ _ luma_class t _ _ _ _ _ _ _ _ _ _ c.columns-across.ensures c.rows-down.ensures w h c.luma_class.ensures
    c.luma_class-2.ensures c.mask_grid.ensures.masks c.mask_grid-2.ensures.masks
