-- What holds of a frame whose masks hold the standard's edges of legal blocks.
use Rattle.std.specs.Prelude.{false, List, ◌≡◌, ℕ}
use Rattle.standard.specs.Edge as standard
use Rattle.plane.specs.Line.{Pass}
use Rattle.plane.specs.Three.{Three}
use Rattle.gap.specs.Numbers.{gap}
use Rattle.checks.specs.Call.{sb4, Shaped}
use Rattle.frames.specs.Calls.{Frame, Accepted, BoundariesKept}
use Rattle.frames.specs.Promises.{Demand}
use Rattle.covering.specs.Front.{Tile}
use Rattle.covering.specs.Standard.{Covered}
use Rattle.block.specs.Block.{Lent}
use Rattle.drawn.specs.Calls.{RecordCall}
use Rattle.blocks.specs.Laid.{TileArea}
use Rattle.drawn.specs.Run.{State, SeenBlock, Tallies, OneTile}
use Rattle.tiles.specs.Tiles.{Fix, InTiles}
use Rattle.kept.specs.Holds.{frame_grid, HoldsEdges, AllHold, LumaCalls, ChromaCalls}
use Rattle.kept.specs.Example.{Example}

pub record Promises : Type 0 where
  -- a plane of one tile holds them once its blocks are recorded in order
  pub recorded : (f : Frame) (D : standard.Frame) (n : ℕ) (l : List SeenBlock) (s t : State) (start : ℕ) → Tallies D n (frame_grid f n)
      → OneTile D n (frame_grid f n) l s t start → Covered D n → f.masks ≡ t.masks → HoldsEdges f D n
  -- as accepted calls for legal blocks that cover the frame record them, in luma and in chroma
  pub luma-calls : (f : Frame) (D : standard.Frame) (level-stride : ℕ) (A : TileArea) (l : List RecordCall) (m n : Lent) → LumaCalls f D level-stride A l m n → HoldsEdges f D 0
  pub chroma-calls : (f : Frame) (D : standard.Frame) (sx sy level-stride : ℕ) (A : TileArea) (l : List RecordCall) (m n : Lent)
      → ChromaCalls f D sx sy level-stride A l m n → HoldsEdges f D 1
  -- and so does a plane of several tiles, once their starts are corrected too
  pub in-tiles : (f : Frame) (D : standard.Frame) (n : ℕ) (start : ℕ) (ts : List Tile) (l : List Fix) (clear drawn : List ℕ)
      → InTiles D n (frame_grid f n) start ts l clear drawn f.masks → Covered D n → HoldsEdges f D n
  -- number 11 is not given for such a plane
  pub eleven : (f : Frame) (D : standard.Frame) (n : ℕ) → Shaped f.head → HoldsEdges f D n → (d : Pass) (k : ℕ)
      → gap (frame_grid f n) f.masks d (sb4 f.head) k ≡ false
  -- edges on superblock boundaries keep the gap rule with what is above them, which no call looks at
  pub boundaries : (f : Frame) (D : standard.Frame) → Shaped f.head → AllHold f D → BoundariesKept f
  -- so that demand 3 asks no more than accepted calls
  pub demand : (f : Frame) (D : standard.Frame) (s : Three (List ℕ)) → Accepted f s → AllHold f D → Demand f s
  -- there is such a frame, whose masks two accepted calls have left
  pub example : Example
