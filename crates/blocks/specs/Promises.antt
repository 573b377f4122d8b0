-- What holds of a list of accepted calls for the blocks of a tile.
use Rattle.std.specs.Prelude.{Bool, List, ◌≡◌, ℕ, ◌≤◌}
use Rattle.loops.specs.Run.{All}
use Rattle.standard.specs.Edge.{Frame}
use Rattle.plane.specs.Line.{Pass}
use Rattle.edges.specs.Edges.{grid_of, luma_grid, chroma_grid}
use Rattle.block.specs.Block.{Lent}
use Rattle.agree.specs.Legal.{class_of}
use Rattle.covering.specs.Front.{Begins}
use Rattle.covering.specs.Cover.{SoundAxis}
use Rattle.drawn.specs.Calls.{RecordCall, luma_state, chroma_state}
use Rattle.drawn.specs.Run.{context_in, Tallies, whole_of}
use Rattle.blocks.specs.Laid.{Calls, TileArea, axis_of, tile_in, WholeFrame, Laid, LumaLegal, ChromaLegal, LumaLong, ChromaLong, TileDrawn}

pub record Promises : Type 0 where
  -- calls for legal blocks that cover a tile in order draw it in luma, in both passes, with contexts that hold the highest class along its lines
  pub luma : (D : Frame) (level-stride : ℕ) (A : TileArea) (l : List RecordCall) (m n : Lent) (start : ℕ) → Tallies D 0 (luma_grid A.w4 A.h4) → Calls level-stride l m n
      → All (LumaLegal D A) l → Laid A 0 0 l → LumaLong A m → ((k : ℕ) → class_of 0 k ≤ start)
      → ((d : Pass) → Begins start (tile_in A 0 0 d) (context_in d (luma_state m)))
      → TileDrawn D 0 (luma_grid A.w4 A.h4) A 0 0 (luma_state m) (luma_state n) start
  -- and in chroma
  pub chroma : (D : Frame) (plane level-stride : ℕ) (A : TileArea) (sx sy : ℕ) (l : List RecordCall) (m n : Lent) (start : ℕ) → Tallies D plane (chroma_grid sx sy A.w4 A.h4)
      → Calls level-stride l m n → All (ChromaLegal D plane A sx sy) l → Laid A sx sy l → ChromaLong A sx sy m → ((k : ℕ) → class_of plane k ≤ start)
      → ((d : Pass) → Begins start (tile_in A sx sy d) (context_in d (chroma_state m)))
      → TileDrawn D plane (chroma_grid sx sy A.w4 A.h4) A sx sy (chroma_state m) (chroma_state n) start
  -- of a tile's area that is the whole frame that tile is all of the frame's units, so that the frame is of one tile
  pub whole : (A : TileArea) (luma : Bool) (sx sy : ℕ) → ((d : Pass) → SoundAxis (axis_of A sx sy d)) → WholeFrame A → (d : Pass)
      → tile_in A sx sy d ≡ whole_of (grid_of luma sx sy A.w4 A.h4) d
