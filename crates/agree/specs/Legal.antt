-- A block of a legal stream: as the standard's frame knows it, and as it is recorded in one plane. What is assumed of the stream is here.
--   Coded                the block: its luma place, its size, skip and intra
--   luma_width, luma_height  its sides in luma units
--   left, top            its place in a plane, in units of the plane
--   block_width, block_height   its sides there
--   row_at y, col_at x     the luma place at which 7.14.1 visits the unit (x, y) of the block
--   PlacedSide ss n at   a block of n luma units at `at` has its place in the plane
--   Legal D plane C      the frame D holds the block C, which has the plane
--   class_of plane n      the class of a transform's side
--   side_of pass t        the side of a transform across the pass
--   Shows D plane C B    what is seen of C in the plane is recorded as B
--   Tells plane pass t k   k is the class of the transform t
--   Sized D plane C w h t tx   what is seen has the transforms tx, parts of t, which fits in the block
-- Of a stream's chroma: the unit belongs to the block that covers its odd luma unit (row | sy, col | sx), and of several small blocks only that
-- one, the last, has a chroma pair (HasChroma, 5.11.5).
use Rattle.std.specs.Prelude.{◌≡◌, Bool, cond, not, ◌||◌, ℕ, ◌+◌, ◌*◌, ◌%◌, ◌^◌, ◌≤◌, ◌<◌, eqb}
use Rattle.standard.specs.Sizes.{Num_4x4_Blocks_Wide, Num_4x4_Blocks_High, Tx_Wide, Tx_High}
use Rattle.standard.specs.Edge.{Frame}
use Rattle.units.specs.Units.{chroma_unit, chroma_units}
use Rattle.units.specs.Sizes.{luma_class, chroma_class}
use Rattle.mask_edges.specs.Recording.{Block}

pub record Coded : Type 0 where
  pub MiRow : ℕ
  pub MiCol : ℕ
  pub MiSize : ℕ
  pub Skip : Bool
  pub is_intra : Bool

abbrev pub luma_width : Coded → ℕ
luma_width C = Num_4x4_Blocks_Wide C.MiSize

abbrev pub luma_height : Coded → ℕ
luma_height C = Num_4x4_Blocks_High C.MiSize

module _ (D : Frame) (plane : ℕ) (C : Coded) where
  abbrev pub left : ℕ
  left = chroma_unit (D.sx plane) C.MiCol

  abbrev pub top : ℕ
  top = chroma_unit (D.sy plane) C.MiRow

  abbrev pub block_width : ℕ
  block_width = chroma_units (D.sx plane) (luma_width C)

  abbrev pub block_height : ℕ
  block_height = chroma_units (D.sy plane) (luma_height C)

  abbrev pub row_at : ℕ → ℕ
  row_at y = (top + y) * 2 ^ D.sy plane

  abbrev pub col_at : ℕ → ℕ
  col_at x = (left + x) * 2 ^ D.sx plane

-- a multiple of its size; and a block of one luma unit has a subsampled plane only from an odd place
pub record PlacedSide (ss n at : ℕ) : Type 0 where
  pub sub : ss ≤ 1
  pub multiple : at % n ≡ 0
  pub has : ss ≡ 1 → n ≡ 1 → at % 2 ≡ 1

pub record Legal (D : Frame) (plane : ℕ) (C : Coded) : Type 0 where
  pub code : C.MiSize < 22
  pub across : PlacedSide (D.sx plane) (luma_width C) C.MiCol
  pub down : PlacedSide (D.sy plane) (luma_height C) C.MiRow
  -- it covers its units; beyond the frame 7.14 asks nothing
  pub covers : (row col : ℕ) → (C.MiRow ≤ row) × (row < C.MiRow + luma_height C) → (C.MiCol ≤ col) × (col < C.MiCol + luma_width C)
      → (D.MiSize row col ≡ C.MiSize) × (D.Skip row col ≡ C.Skip) × (D.is_intra row col ≡ C.is_intra)

abbrev pub class_of : ℕ → ℕ → ℕ
class_of plane n = cond (eqb plane 0) (luma_class n) (chroma_class n)

abbrev pub side_of : ℕ → ℕ → ℕ
side_of pass t = cond (eqb pass 0) (Tx_Wide t) (Tx_High t)

-- LoopfilterTxSizes has the transforms, and none is larger than the block
pub record Shows (D : Frame) (plane : ℕ) (C : Coded) (B : Block) : Type 0 where
  pub wide-seen : (0 < B.w4) × (B.w4 ≤ block_width D plane C)
  pub high-seen : (0 < B.h4) × (B.h4 ≤ block_height D plane C)
  pub tx : (x y : ℕ) → x < B.w4 → y < B.h4 → D.TxSizes plane (top D plane C + y) (left D plane C + x) ≡ B.tx x y
  pub code : (x y : ℕ) → x < B.w4 → y < B.h4 → B.tx x y < 19
  pub fits : (x y : ℕ) → x < B.w4 → y < B.h4 → (Tx_Wide (B.tx x y) ≤ block_width D plane C) × (Tx_High (B.tx x y) ≤ block_height D plane C)
  pub class : (n : ℕ) → B.class n ≡ class_of plane n
  pub inner : B.inner ≡ (not C.Skip || C.is_intra)

pub record Tells (plane pass t k : ℕ) : Type 0 where
  pub code : t < 19
  pub class : k ≡ class_of plane (side_of pass t)

pub record Sized (D : Frame) (plane : ℕ) (C : Coded) (w4 h4 t : ℕ) (tx : ℕ → ℕ → ℕ) : Type 0 where
  pub wide-seen : (0 < w4) × (w4 ≤ block_width D plane C)
  pub high-seen : (0 < h4) × (h4 ≤ block_height D plane C)
  pub code : t < 19
  pub fits : (Tx_Wide t ≤ block_width D plane C) × (Tx_High t ≤ block_height D plane C)
  pub known : (x y : ℕ) → x < w4 → y < h4 → D.TxSizes plane (top D plane C + y) (left D plane C + x) ≡ tx x y
