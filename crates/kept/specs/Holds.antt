-- A frame to filter, whose masks hold the standard's edges.
--   frame_grid f n     the units of plane n
--   HoldsEdges f D n   legal blocks cover plane n of the standard's frame D, and the masks of f hold its edges there
--   AllHold f D        luma does, and chroma where it is filtered; U and V share their masks
--   Begun G start s    clear masks, and contexts that hold the start value along the frame
--   LumaCalls          the masks of f are those that the calls l leave: accepted, for legal blocks that cover the frame A as one tile, in order
--   ChromaCalls        the same of chroma
use Rattle.std.specs.Prelude.{true, false, List, ◌≡◌, ℕ, ◌<◌}
use Rattle.loops.specs.Run.{All}
use Rattle.bits.specs.Mark.{is_set}
use Rattle.standard.specs.Edge as standard
use Rattle.plane.specs.Line.{Pass, Piece, other}
use Rattle.edges.specs.Edges.{Grid, luma_grid, chroma_grid, units_of, classes, edge_bit, edge}
use Rattle.block.specs.Block.{Lent}
use Rattle.filter.specs.Filter.{grid_of}
use Rattle.checks.specs.Call.{chroma_on}
use Rattle.apply.specs.Apply.{component_of}
use Rattle.frames.specs.Calls.{Frame}
use Rattle.covering.specs.Standard.{filtered_edge, Covered}
use Rattle.drawn.specs.Calls.{RecordCall, luma_state, chroma_state}
use Rattle.drawn.specs.Run.{State, context_in, Tallies}
use Rattle.blocks.specs.Laid.{Calls, TileArea, WholeFrame, Laid, LumaLegal, ChromaLegal, LumaLong, ChromaLong}

abbrev pub frame_grid : Frame → ℕ → Grid
frame_grid f n = grid_of (component_of f.head n)

pub record HoldsEdges (f : Frame) (D : standard.Frame) (n : ℕ) : Type 0 where
  pub tallies : Tallies D n (frame_grid f n)
  pub covered : Covered D n
  pub edges : (d : Pass) (p : Piece) → edge (frame_grid f n) f.masks d p ≡ filtered_edge D n d p.1 p.0

pub record AllHold (f : Frame) (D : standard.Frame) : Type 0 where
  pub luma : HoldsEdges f D 0
  pub chroma : chroma_on f.head ≡ true → HoldsEdges f D 1

pub record Begun (G : Grid) (start : ℕ) (s : State) : Type 0 where
  pub clear : (d : Pass) (p : Piece) (c : ℕ) → p.0 < units_of G d → p.1 < units_of G (other d) → c < classes G → is_set s.masks (edge_bit G d p c) ≡ false
  pub contexts : (d : Pass) (j : ℕ) → j < units_of G (other d) → context_in d s j ≡ start

pub record LumaCalls (f : Frame) (D : standard.Frame) (level-stride : ℕ) (A : TileArea) (l : List RecordCall) (m n : Lent) : Type 0 where
  pub units : frame_grid f 0 ≡ luma_grid A.w4 A.h4
  pub tallies : Tallies D 0 (luma_grid A.w4 A.h4)
  pub whole : WholeFrame A
  pub begun : Begun (luma_grid A.w4 A.h4) 2 (luma_state m)
  pub long : LumaLong A m
  pub calls : Calls level-stride l m n
  pub legal : All (LumaLegal D A) l
  pub laid : Laid A 0 0 l
  pub masks : f.masks ≡ n.masks

pub record ChromaCalls (f : Frame) (D : standard.Frame) (sx sy level-stride : ℕ) (A : TileArea) (l : List RecordCall) (m n : Lent) : Type 0 where
  pub units : frame_grid f 1 ≡ chroma_grid sx sy A.w4 A.h4
  pub tallies : Tallies D 1 (chroma_grid sx sy A.w4 A.h4)
  pub whole : WholeFrame A
  pub begun : Begun (chroma_grid sx sy A.w4 A.h4) 1 (chroma_state m)
  pub long : ChromaLong A sx sy m
  pub calls : Calls level-stride l m n
  pub legal : All (ChromaLegal D 1 A sx sy) l
  pub laid : Laid A sx sy l
  pub masks : f.masks ≡ n.masks
