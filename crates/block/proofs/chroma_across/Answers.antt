-- `chroma_across` meets its contract: the block's side is at most 32 units.
use native.Mathlib.Omega.{arith}
use Rattle.units.proofs.Places.{ss-hor-le}
use Rattle.units.proofs.Rules.{block-rule}
use Rattle.block.proofs.chroma_across.Goals as goal

pub chroma_side-requires : goal.chroma_side-requires
chroma_side-requires c =
    let l = c.luma_units.ensures in (
      omega (arith, l, c.requires.1),
      omega (arith, l, c.requires.0.0),
      omega (arith, c.requires.2, (block-rule c.args.b.size c.requires.0.2).width.at_most),
      rw c.ss_hor.ensures (ss-hor-le c.args.b.layout),
    )
