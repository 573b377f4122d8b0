-- A block to record, document 01, "Recording": its sizes, what of it is seen, and the memory that is lent for it.
--   w4, h4                      the frame, in luma units
--   block_width, block_height   the block, in luma units
--   ss-hor, ss-ver              ss_hor and ss_ver of the frame's layout
--   bw4, bh4                    the visible size, in luma units: the block cut at w4 and h4
--   chroma_side                 in chroma units: of all units from u on, what n of them come to, both rounded up
--   cbw4, cbh4                  the visible size, in chroma units
--   sees_luma, sees_chroma      units are recorded in the plane
--   Lent, lent                  the lent memory
--   cx, cy                      the place, in chroma units
--   at_block b m                what is lent of the frame's memory m: contexts that begin at the block
--   Sides                       what the sizes ask: a frame's sides, a block's code
use Rattle.std.specs.Prelude.{Bool, ◌&&◌, List, ℕ, ◌-◌, ◌<◌, ◌≤◌, min, ltb, drop}
use Rattle.standard.specs.Sizes.{Num_4x4_Blocks_Wide, Num_4x4_Blocks_High}
use Rattle.units.specs.Units.{units_of, chroma_unit, chroma_units}
use Rattle.units.specs.Layout.{ss_hor, ss_ver}
use Rattle.block.specs.declared.Block.{Block}

abbrev pub w4 : Block → ℕ
w4 b = units_of b.width.0

abbrev pub h4 : Block → ℕ
h4 b = units_of b.height.0

abbrev pub block_width : Block → ℕ
block_width b = Num_4x4_Blocks_Wide b.size

abbrev pub block_height : Block → ℕ
block_height b = Num_4x4_Blocks_High b.size

abbrev pub ss-hor : Block → ℕ
ss-hor b = ss_hor b.layout

abbrev pub ss-ver : Block → ℕ
ss-ver b = ss_ver b.layout

unfoldable pub bw4 : Block → ℕ
bw4 b = min (w4 b - b.x.0) (block_width b)

unfoldable pub bh4 : Block → ℕ
bh4 b = min (h4 b - b.y.0) (block_height b)

abbrev pub chroma_side : ℕ → ℕ → ℕ → ℕ → ℕ
chroma_side all u n ss = min (chroma_units ss all - chroma_unit ss u) (chroma_units ss n)

unfoldable pub cbw4 : Block → ℕ
cbw4 b = chroma_side (w4 b) b.x.0 (block_width b) (ss-hor b)

unfoldable pub cbh4 : Block → ℕ
cbh4 b = chroma_side (h4 b) b.y.0 (block_height b) (ss-ver b)

abbrev pub sees_luma : Block → Bool
sees_luma b = ltb 0 (bw4 b) && ltb 0 (bh4 b)

abbrev pub sees_chroma : Block → Bool
sees_chroma b = b.chroma && (ltb 0 (cbw4 b) && ltb 0 (cbh4 b))

pub record Lent : Type 0 where
  pub levels : List ℕ
  pub masks : List ℕ
  pub above : List ℕ
  pub left : List ℕ
  pub above-uv : List ℕ
  pub left-uv : List ℕ

abbrev pub lent : List ℕ → List ℕ → List ℕ → List ℕ → List ℕ → List ℕ → Lent
lent levels masks above left above-uv left-uv =
    record { levels = levels; masks = masks; above = above; left = left; above-uv = above-uv; left-uv = left-uv }

abbrev pub cx : Block → ℕ
cx b = chroma_unit (ss-hor b) b.x.0

abbrev pub cy : Block → ℕ
cy b = chroma_unit (ss-ver b) b.y.0

abbrev pub at_block : Block → Lent → Lent
at_block b m =
    lent m.levels m.masks (drop b.x.0 m.above) (drop b.y.0 m.left) (drop (cx b) m.above-uv) (drop (cy b) m.left-uv)

abbrev pub Sides : Block → Type 0
Sides b = (b.width.0 ≤ 16384) × (b.height.0 ≤ 16384) × (b.size < 22)
