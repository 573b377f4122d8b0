-- Two passes over one transform's grid.
use Rattle.mask_edges.proofs.BlockPasses.{halves, chroma-low, grid-asked, grid-both}
use Rattle.units.proofs.Rules.{tx-rule}
use Rattle.units.specs.Sizes.{chroma_class}
use native.Mathlib.Omega.{arith}
use mathlib.Core.Bool.{true, false}
use Rattle.mask_edges.proofs.mask_edges_chroma.Goals as goal

pub mask_grid-requires : goal.mask_grid-requires
mask_grid-requires c =
    let r = c.requires.0 in
    let w = tx-rule _ c.requires.1 in
    let k = halves c.args.ss_ver c.requires.3 in
    let m = halves c.args.ss_hor c.requires.2 in
    grid-asked _ false _ false _ _ _ _ _ c.columns-across.ensures k (omega (arith, r.width.1)) r.height.1 r.record-words _ _ _
    (rw c.chroma_class.ensures (chroma-low c.tx_wide-w.result.0)) r.width.0 (rw c.tx_wide-w.ensures w.width.low)
    r.left-units

pub mask_grid-requires-2 : goal.mask_grid-requires-2
mask_grid-requires-2 c =
    let r = c.requires.0 in
    let w = tx-rule _ c.requires.1 in
    let k = halves c.args.ss_hor c.requires.2 in
    let m = halves c.args.ss_ver c.requires.3 in
    grid-asked _ false _ true _ _ _ _ _ c.rows-down.ensures k (omega (arith, r.height.1)) r.width.1
    (rw c.mask_grid.auto.masks r.record-words) _ _ _
    (rw c.chroma_class-2.ensures (chroma-low c.tx_high-h.result.0)) r.height.0 (rw c.tx_high-h.ensures w.height.low)
    r.above-units

pub returns-clause-masks : goal.returns-clause-masks
returns-clause-masks c =
    grid-both _ _ _ _ chroma_class _ _ _ _ _ _ _ _ _ _ _ c.columns-across.ensures c.rows-down.ensures c.tx_wide-w.ensures
    c.tx_high-h.ensures c.chroma_class.ensures c.chroma_class-2.ensures c.mask_grid.ensures.masks c.mask_grid-2.ensures.masks
