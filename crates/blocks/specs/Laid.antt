-- The blocks of a tile, recorded by a list of calls.
--   Calls level-stride l m n   the calls l answer 0, one after another, and lead from the memory m to n
--   TileArea                 a tile of a frame, in luma units: the frame's w4 and h4, MiCols and MiRows, and the tile from x0 to x1 and from y0 to y1
--   axis_of A sx sy d         the direction across the pass d, in a plane of subsampling sx and sy
--   tile_in A sx sy d         the visible tile in the plane, as the pass sees it
--   WholeFrame A             the tile is the frame, rounded up to 8 samples
--   block_part d b, block_parts  a block in luma units, uncut, as the pass sees it; those of a list of calls
--   Laid A sx sy l           the blocks of l cover the tile, in the standard's order as both passes see it
--   LumaLegal D A q          the call's block is legal in luma, where some unit of it is seen
--   ChromaLegal D plane A sx sy q   and in chroma, which it has exactly if some odd luma unit of the plane's lies in it (HasChroma)
--   LumaLong, ChromaLong     the contexts of a memory reach along the frame
--   TileDrawn                the tile's blocks that a plane sees lead from the state s to t in both passes, and each of its visible units lies in one of them
use Rattle.std.specs.Prelude.{true, ◌&&◌, List, [], ◌∷◌, ◌≡◌, ℕ, ◌≤◌, ◌<◌, length}
use Rattle.standard.specs.Edge.{Frame}
use Rattle.plane.specs.Line.{Pass, columns, rows, other}
use Rattle.units.specs.Units.{chroma_units}
use Rattle.edges.specs.Edges.{Grid}
use Rattle.block.specs.declared.Block.{Block}
use Rattle.block.specs.Block.{w4, h4, block_width, block_height, ss-hor, ss-ver, sees_luma, sees_chroma, Lent}
use Rattle.agree.specs.Legal.{Legal, Shows}
use Rattle.covering.specs.Front.{Part, Tile}
use Rattle.covering.specs.Cover.{Axis, SoundAxis, owns, Covering, tile_of}
use Rattle.covering.specs.Standard.{Lies}
use Rattle.drawn.specs.Run.{State, SeenBlock, InTile}
use Rattle.drawn.specs.Calls.{RecordCall, Records, coded, luma_seen, chroma_seen}

pub data Calls (level-stride : ℕ) : List RecordCall → Lent → Lent → Type 0 where
  done : (m : Lent) → Calls level-stride [] m m
  call : (q : RecordCall) (l : List RecordCall) (m n o : Lent) → Records level-stride q m n → Calls level-stride l n o → Calls level-stride (q ∷ l) m o

pub record TileArea : Type 0 where
  pub w4 : ℕ
  pub h4 : ℕ
  pub MiCols : ℕ
  pub MiRows : ℕ
  pub x0 : ℕ
  pub x1 : ℕ
  pub y0 : ℕ
  pub y1 : ℕ

abbrev pub axis_of : TileArea → ℕ → ℕ → Pass → Axis
axis_of A sx sy columns = record { ss = sx; all = A.w4; first = A.x0; last = A.x1; mi = A.MiCols }
axis_of A sx sy rows = record { ss = sy; all = A.h4; first = A.y0; last = A.y1; mi = A.MiRows }

abbrev pub tile_in : TileArea → ℕ → ℕ → Pass → Tile
tile_in A sx sy d = tile_of (axis_of A sx sy d) (axis_of A sx sy (other d))

pub record WholeFrame (A : TileArea) : Type 0 where
  pub left : A.x0 ≡ 0
  pub top : A.y0 ≡ 0
  pub right : A.x1 ≡ A.MiCols
  pub bottom : A.y1 ≡ A.MiRows

abbrev pub block_part : Pass → Block → Part
block_part columns b = record { at = b.x.0; across = block_width b; from = b.y.0; along = block_height b }
block_part rows b = record { at = b.y.0; across = block_height b; from = b.x.0; along = block_width b }

abbrev pub block_parts : Pass → List RecordCall → List Part
block_parts d [] = []
block_parts d (q ∷ l) = block_part d q.block ∷ block_parts d l

pub record Laid (A : TileArea) (sx sy : ℕ) (l : List RecordCall) : Type 0 where
  pub sound : (d : Pass) → SoundAxis (axis_of A sx sy d)
  pub covering : (d : Pass) → Covering (axis_of A sx sy d) (axis_of A sx sy (other d)) (block_parts d l)

pub record LumaLegal (D : Frame) (A : TileArea) (q : RecordCall) : Type 0 where
  pub w4-is : w4 q.block ≡ A.w4
  pub h4-is : h4 q.block ≡ A.h4
  pub legal : sees_luma q.block ≡ true → Legal D 0 (coded q.block)
  pub shows : sees_luma q.block ≡ true → (m : Lent) → Shows D 0 (coded q.block) (luma_seen q m).B

pub record ChromaLegal (D : Frame) (plane : ℕ) (A : TileArea) (sx sy : ℕ) (q : RecordCall) : Type 0 where
  pub w4-is : w4 q.block ≡ A.w4
  pub h4-is : h4 q.block ≡ A.h4
  pub sx-is : ss-hor q.block ≡ sx
  pub sy-is : ss-ver q.block ≡ sy
  pub has : q.block.chroma ≡ (owns (axis_of A sx sy columns) q.block.x.0 (block_width q.block) && owns (axis_of A sx sy rows) q.block.y.0 (block_height q.block))
  pub legal : sees_chroma q.block ≡ true → Legal D plane (coded q.block)
  pub shows : sees_chroma q.block ≡ true → (m : Lent) → Shows D plane (coded q.block) (chroma_seen q m).B

pub record LumaLong (A : TileArea) (m : Lent) : Type 0 where
  pub above : A.w4 ≤ length m.above
  pub left : A.h4 ≤ length m.left

pub record ChromaLong (A : TileArea) (sx sy : ℕ) (m : Lent) : Type 0 where
  pub above : chroma_units sx A.w4 ≤ length m.above-uv
  pub left : chroma_units sy A.h4 ≤ length m.left-uv

pub record TileDrawn (D : Frame) (plane : ℕ) (G : Grid) (A : TileArea) (sx sy : ℕ) (s t : State) (start : ℕ) : Type 0 where
  pub blocks : List SeenBlock
  pub in-tile : (d : Pass) → InTile D plane G d (tile_in A sx sy d) blocks s t start
  pub lies : (x y : ℕ) → (tile_in A sx sy columns).x0 ≤ x → x < (tile_in A sx sy columns).x1 → (tile_in A sx sy columns).y0 ≤ y → y < (tile_in A sx sy columns).y1
      → Lies D plane x y
