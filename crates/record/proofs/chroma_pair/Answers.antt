-- Lending the units seen of a context is lending all.
use Rattle.std.proofs.Common.{rules, ◌≡◌, true, ◌∙◌}
use Rattle.block.specs.Block.{sees_chroma}
use Rattle.record.proofs.NearBlocks.{chroma-near, context-put}
use Rattle.record.proofs.chroma_pair.Goals as goal

pub returns-clause-masks : goal.returns-clause-masks
returns-clause-masks c =
    let a = c.args in
    c.chroma_masks.ensures.masks ∙ chroma-near a.b _ _ a.above.now a.left.now a.masks.now c.chroma_wide-w.ensures c.chroma_high-h.ensures

pub returns-clause-above : goal.returns-clause-above
returns-clause-above c =
    let sees : sees_chroma c.args.b ≡ true = search rules in
    context-put (sees_chroma c.args.b) _ _ _ c.args.above.now c.chroma_wide-w.ensures (c.requires.4 sees).0 c.chroma_masks.ensures.above

pub returns-clause-left : goal.returns-clause-left
returns-clause-left c =
    let sees : sees_chroma c.args.b ≡ true = search rules in
    context-put (sees_chroma c.args.b) _ _ _ c.args.left.now c.chroma_high-h.ensures (c.requires.4 sees).1 c.chroma_masks.ensures.left
