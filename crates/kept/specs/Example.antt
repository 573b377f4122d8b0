-- A frame that meets the hypotheses, in luma and in chroma: 16 by 8 samples in 4:2:0, one tile of two intra blocks of 8 by 8 side by side.
--   decoded            the frame in the standard's words: in luma the first block has transforms of 4x4, the second one of 8x8; in chroma each has one of 4x4
--   call x t           the call that records the block at the luma unit x, of luma transforms t
--   clear              the memory before it: masks and levels of 0, contexts of the highest class
--   area, both         its tile, and the two calls
--   head               what the calls that filter the frame are given
--   zeros, samples     its samples, all 0
--   Example            the two calls are accepted, one after the other; their blocks are legal and cover the tile in order; a frame with the masks that they
--                      leave holds the standard's edges, and its calls answer 0; some of the edges
use Rattle.std.specs.Prelude.{true, false, cond, List, [], ◌∷◌, ◌≡◌, ℕ, eqb, ltb, replicate}
use Rattle.std.proofs.Math.Option.{some, none}
use Rattle.standard.specs.Edge as standard
use Rattle.plane.specs.Line.{columns, rows}
use Rattle.plane.specs.Three.{Three}
use Rattle.edges.specs.Edges.{edge}
use Rattle.block.specs.Block.{Lent, lent}
use Rattle.record.specs.Record.{intra_of}
use Rattle.checks.specs.declared.Call as checks
use Rattle.frames.specs.Calls.{Frame, Accepted}
use Rattle.drawn.specs.Calls.{RecordCall, luma_state, luma_units, chroma_state, chroma_units_of}
use Rattle.drawn.specs.Run.{SeenBlock, OneTile}
use Rattle.blocks.specs.Laid.{TileArea}
use Rattle.kept.specs.Holds.{frame_grid, AllHold, LumaCalls, ChromaCalls}

abbrev pub decoded : standard.Frame
decoded =
    record {
      FrameWidth = 16;
      FrameHeight = 8;
      sx = λ plane. cond (eqb plane 0) 0 1;
      sy = λ plane. cond (eqb plane 0) 0 1;
      MiSize = λ _ _. 3;
      Skip = λ _ _. false;
      is_intra = λ _ _. true;
      TxSizes = λ plane row col. cond (eqb plane 0) (cond (ltb col 2) 0 1) 0;
    }

abbrev pub call : ℕ → ℕ → RecordCall
call x t = record { block = intra_of 16 8 420 x 0 3 t 1 0; tx-masks = []; values = replicate 64 20 }

abbrev pub clear : Lent
clear = lent (replicate 32 0) (replicate 640 0) (replicate 4 2) (replicate 2 2) (replicate 2 1) (replicate 1 1)

abbrev pub head : checks.Call
head =
    record {
      width = record { 0 = 16 };
      height = record { 0 = 8 };
      layout = 420;
      superblock = 64;
      depth = 8;
      level_u = 20;
      level_v = 20;
      row = 0;
      rowwise = false;
      luma_stride = 128;
      chroma_stride = 64;
      level_stride = 4;
    }

-- the frame is one tile
abbrev pub area : TileArea
area = record { w4 = 4; h4 = 2; MiCols = 4; MiRows = 2; x0 = 0; x1 = 4; y0 = 0; y1 = 2 }

abbrev pub both : List RecordCall
both = call 0 0 ∷ call 2 1 ∷ []

unfoldable pub zeros : ℕ → List ℕ
zeros n = replicate n 0

abbrev pub samples : Three (List ℕ)
samples = record { luma = zeros 16384; u = zeros 4096; v = zeros 4096 }

pub record Example : Type 0 where
  pub after : Lent
  pub luma-tile : (l : List SeenBlock) × OneTile decoded 0 (luma_units (call 0 0).block) l (luma_state clear) (luma_state after) 2
  pub chroma-tile : (l : List SeenBlock) × OneTile decoded 1 (chroma_units_of (call 0 0).block) l (chroma_state clear) (chroma_state after) 1
  pub frame : Frame
  pub head-is : frame.head ≡ head
  pub luma : LumaCalls frame decoded 4 area both clear after
  pub chroma : ChromaCalls frame decoded 1 1 4 area both clear after
  pub holds : AllHold frame decoded
  pub accepted : Accepted frame samples
  -- an inner edge of the first block in each pass, the edge between the blocks, of the lesser class, and nothing inside the second; in chroma the edge between
  pub inner-column : edge (frame_grid frame 0) frame.masks columns (1, 0) ≡ some 0
  pub inner-row : edge (frame_grid frame 0) frame.masks rows (1, 0) ≡ some 0
  pub block-edge : edge (frame_grid frame 0) frame.masks columns (2, 0) ≡ some 0
  pub no_edge : edge (frame_grid frame 0) frame.masks columns (3, 0) ≡ none
  pub chroma-edge : edge (frame_grid frame 1) frame.masks columns (1, 0) ≡ some 0
