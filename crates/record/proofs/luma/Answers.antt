-- Lending the units seen of a context is lending all.
use Rattle.std.proofs.Common.{rules, ◌≡◌, true, ◌∙◌}
use Rattle.block.specs.Block.{sees_luma}
use Rattle.record.proofs.NearBlocks.{luma-near, context-put}
use Rattle.record.proofs.luma.Goals as goal

pub returns-clause-masks : goal.returns-clause-masks
returns-clause-masks c =
    let a = c.args in
    c.luma_masks.ensures.masks ∙ luma-near a.b _ _ a.above.now a.left.now a.masks.now a.tx_masks.now c.luma_wide-w.ensures c.luma_high-h.ensures

pub returns-clause-above : goal.returns-clause-above
returns-clause-above c =
    let sees : sees_luma c.args.b ≡ true = search rules in
    context-put (sees_luma c.args.b) _ _ _ c.args.above.now c.luma_wide-w.ensures (c.requires.4 sees).0 c.luma_masks.ensures.above

pub returns-clause-left : goal.returns-clause-left
returns-clause-left c =
    let sees : sees_luma c.args.b ≡ true = search rules in
    context-put (sees_luma c.args.b) _ _ _ c.args.left.now c.luma_high-h.ensures (c.requires.4 sees).1 c.luma_masks.ensures.left
