-- `chroma_down` meets its contract: the block's side is at most 32 units.
use native.Mathlib.Omega.{arith}
use Rattle.units.proofs.Places.{ss-ver-le}
use Rattle.units.proofs.Rules.{block-rule}
use Rattle.block.proofs.chroma_down.Goals as goal

pub chroma_side-requires : goal.chroma_side-requires
chroma_side-requires c =
    let l = c.luma_units.ensures in (
      omega (arith, l, c.requires.1),
      omega (arith, l, c.requires.0.1),
      omega (arith, c.requires.2, (block-rule c.args.b.size c.requires.0.2).height.at_most),
      rw c.ss_ver.ensures (ss-ver-le c.args.b.layout),
    )
