-- Two passes over the cells that the split of an inter block fills; or, where nothing is split, the block of one transform, which is recorded the same.
use Rattle.mask_edges.proofs.BlockPasses.{cells-asked, cells-both, context-taken}
use Rattle.mask_edges.proofs.CellTables.{from-zeros, told-columns, told-rows}
use Rattle.mask_edges.proofs.UnsplitInter.{whole-at, split-inter, whole-luma}
use Rattle.mask_edges.specs.Folds.{stores}
use Rattle.decomp.specs.Cells.{Covers}
use Rattle.units.proofs.Rules.{tx-rule}
use Rattle.units.specs.Sizes.{luma_class}
use Rattle.bits.specs.Mark.{Words}
use lib.ListN.{get_or}
use native.Mathlib.Omega.{arith}
use mathlib.Core.Bool.{true, false}
use mathlib.Core.Path.{◌≡◌, ap, ◌∙◌}
use Prim.Native.Nat.{ℕ}
use Rattle.mask_edges.proofs.mask_edges_luma.Goals as goal
use Rattle.mask_edges.proofs.mask_edges_luma.Goals.{After-txa-1}

-- only an inter block passes the test
is-inter : (d : After-txa-1) → d.args.inter ≡ true
is-inter d =
    let g = d.args in
    split-inter g.inter g.tx g.w4.0 g.h4.0 _ _ (get_or g.tx_masks.now 0 0) _ d.is_whole.ensures d.if-is_whole.false

covered : (d : After-txa-1)
    → let g = d.args in Covers g.tx g.w4.0 g.h4.0
covered d = d.requires.2 (is-inter d)

pub one_transform-requires : goal.one_transform-requires
one_transform-requires c =
    let p = c.requires in
    let w = tx-rule _ p.1 in
    (p.0, rw c.tx_wide-w.ensures w.width.low, rw c.tx_high-h.ensures w.height.low)

pub returns-then-is_whole : goal.returns-then-is_whole
unfolding Words
returns-then-is_whole c =
    let g = c.args in
    let p = c.requires in
    let w = c.tx_wide-w.ensures in
    let h = c.tx_high-h.ensures in
    let s = whole-at g.inter g.tx g.w4.0 g.h4.0 _ _ (get_or g.tx_masks.now 0 0) _ c.is_whole.ensures w h
    c.if-is_whole.true in
    let W = whole-luma g.tx_masks.now g.tx g.w4.0 g.h4.0 g.by4.0 g.bx4.0 g.skip g.a.now g.l.now g.masks.now p.0
    (λ i. omega (arith, c.slice_known-1.given i)) g.inter p.2 s in
    let E = c.one_transform.ensures in record { masks = E.masks _ w h ∙ W.0; above = E.above ∙ ap (λ (k : ℕ). stores g.w4.0 (λ _. luma_class k) g.a.now) h ∙ W.1; left = E.left ∙ ap (λ (k : ℕ). stores g.h4.0 (λ _. luma_class k) g.l.now) w ∙ W.2 }

pub mask_cells-requires : goal.mask_cells-requires
mask_cells-requires c =
    let r = c.requires.0 in
    let g = c.args in
    cells-asked _ true 16 false _ _ _ _ _ c.columns-across.ensures (omega arith, omega arith) r.width.1 r.height.1 r.record-words _ _
    (told-columns g.by4.0 g.bx4.0 _ _ _ g.skip g.tx_masks.now g.a.now g.l.now (covered (goal.at.mask_cells-requires c).After-txa-1) _ _
    (from-zeros _ _ _ _ _ c.decomp_block.ensures) c.columns-across.ensures) r.width.0 r.left-units

pub mask_cells-requires-2 : goal.mask_cells-requires-2
mask_cells-requires-2 c =
    let r = c.requires.0 in
    let g = c.args in
    cells-asked _ true 16 true _ _ _ _ _ c.rows-down.ensures (omega arith, omega arith) r.height.1 r.width.1
    (rw c.mask_cells.auto.masks r.record-words) _ _
    (told-rows g.by4.0 g.bx4.0 _ _ _ g.skip g.tx_masks.now g.a.now g.l.now (covered (goal.at.mask_cells-requires-2 c).After-txa-1) _ _
    (from-zeros _ _ _ _ _ c.decomp_block.ensures) c.rows-down.ensures) r.height.0 r.above-units

pub returns : goal.returns
returns c =
    let z = from-zeros _ _ _ _ _ c.decomp_block.ensures in
    rw (is-inter (goal.at.returns c).After-txa-1) (record {
      masks =
          cells-both _ _ _ _ _ _ _ _ _ _ _ _ c.columns-across.ensures c.rows-down.ensures z c.mask_cells.ensures.masks c.mask_cells-2.ensures.masks;
      above = context-taken _ _ _ _ c.rows-down.ensures z _ _ c.mask_cells-2.ensures.context;
      left = context-taken _ _ _ _ c.columns-across.ensures z _ _ c.mask_cells.ensures.context;
    })
