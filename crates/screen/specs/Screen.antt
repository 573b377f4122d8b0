-- 7.14.2's screen in units of a plane: x counts to the right, y down.
--   unit_on_screen D plane pass x y  on_screen where 7.14.1 visits the unit: each plane's units, at luma places a multiple of 2 ^ ss apart
--   plane_units ss side        the units of a side of the frame: w4 or h4, in chroma rounded up
--   UnitInFrame D plane x y   the unit lies in the frame
--   AtStart pass x y          it is unit 0 across the pass
--   TakenIn D plane b ss-hor ss-ver  the block b is taken in the frame D, whose plane has these ss
--   UnitOf D plane b x y      the unit is one of the block's, uncut
use Rattle.std.specs.Prelude.{Bool, ◌≡◌, ℕ, ◌+◌, ◌*◌, ◌^◌, ◌≤◌, ◌<◌}
use Rattle.standard.specs.Edge.{Frame, on_screen}
use Rattle.units.specs.Units.{units_of, chroma_unit, chroma_units}
use Rattle.block.specs.declared.Block.{Block}
use Rattle.block.specs.Block.{block_width, block_height}

abbrev pub unit_on_screen : Frame → ℕ → ℕ → ℕ → ℕ → Bool
unit_on_screen D plane pass x y = on_screen D plane pass (y * 2 ^ D.sy plane) (x * 2 ^ D.sx plane)

abbrev pub plane_units : ℕ → ℕ → ℕ
plane_units ss side = chroma_units ss (units_of side)

pub record UnitInFrame (D : Frame) (plane x y : ℕ) : Type 0 where
  pub across : x < plane_units (D.sx plane) D.FrameWidth
  pub down : y < plane_units (D.sy plane) D.FrameHeight

pub data AtStart (pass x y : ℕ) : Type 0 where
  of-columns : pass ≡ 0 → x ≡ 0 → AtStart pass x y
  of-rows : pass ≡ 1 → y ≡ 0 → AtStart pass x y

pub record TakenIn (D : Frame) (plane : ℕ) (b : Block) (ss-hor ss-ver : ℕ) : Type 0 where
  pub width : D.FrameWidth ≡ b.width.0
  pub height : D.FrameHeight ≡ b.height.0
  pub right-ss : D.sx plane ≡ ss-hor
  pub down-ss : D.sy plane ≡ ss-ver

pub record UnitOf (D : Frame) (plane : ℕ) (b : Block) (x y : ℕ) : Type 0 where
  pub across : (chroma_unit (D.sx plane) b.x.0 ≤ x) × (x < chroma_unit (D.sx plane) b.x.0 + chroma_units (D.sx plane) (block_width b))
  pub down : (chroma_unit (D.sy plane) b.y.0 ≤ y) × (y < chroma_unit (D.sy plane) b.y.0 + chroma_units (D.sy plane) (block_height b))
