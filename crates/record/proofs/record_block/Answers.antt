-- A block that is not refused has the memory that luma and then chroma ask, and each stores its part.
use native.Mathlib.Omega.{arith}
use mathlib.Core.Path.{◌≡◌, sym}
use Rattle.record.proofs.SoundBlocks.{sound, reference-low, levels-long, masks-long, luma-long, chroma-long}
use Rattle.block.specs.Tests.{number}
use Rattle.block.specs.Block.{lent}
use Rattle.record.proofs.record_block.Goals as goal

pub luma-requires : goal.luma-requires
luma-requires c =
    let g = c.args in
    let b = g.b in
    let m = lent g.levels.now g.masks.now g.above.now g.left.now g.above_uv.now g.left_uv.now in
    let e : number b g.level_stride m ≡ 0 = sym c.in_ok-check.ensures in (
      sound b g.level_stride m e (reference-low b g.level_stride m e c.requires.0) c.requires.1,
      (levels-long b g.level_stride m e).0,
      (levels-long b g.level_stride m e).1,
      masks-long b g.level_stride m e,
      luma-long b g.level_stride m e,
    )

pub chroma_pair-requires : goal.chroma_pair-requires
chroma_pair-requires c =
    let g = c.args in
    let b = g.b in
    let m = lent g.levels.now g.masks.now g.above.now g.left.now g.above_uv.now g.left_uv.now in
    let e : number b g.level_stride m ≡ 0 = sym c.in_ok-check.ensures in
    let k = c.luma.auto in (
      sound b g.level_stride m e (reference-low b g.level_stride m e c.requires.0) c.requires.1,
      (levels-long b g.level_stride m e).0,
      omega (arith, k, (levels-long b g.level_stride m e).1),
      omega (arith, k, masks-long b g.level_stride m e),
      chroma-long b g.level_stride m e,
    )
