-- A frame that meets the hypotheses, in luma and in chroma: 80 by 8 samples in 4:2:0, superblocks of 64, two tiles of one intra block of 64 by 64 each.
--   decoded             the frame in the standard's words: transforms of 8x8 in the first tile, in chroma of 4x4, and the largest in the second
--   call x t u          the call that records the block at the luma unit x, of transforms t, and u in chroma
--   fresh m             the memory m with the contexts of a tile's start
--   clear               the memory before the first tile: masks and levels of 0
--   fix_of m            the correction of the second tile's start, with the left contexts of m
--   tiles_of a b h      two tiles side by side, of h units down: from 0 to a, and from a to b
--   Example             the calls are accepted, one after the other, and leave such masks; between the tiles the edge has the class of the lesser transform
use Rattle.std.specs.Prelude.{true, false, cond, List, [], ◌∷◌, ◌≡◌, ℕ, eqb, ltb, replicate}
use Rattle.std.proofs.Math.Option.{some}
use Rattle.standard.specs.Edge.{Frame}
use Rattle.plane.specs.Line.{columns}
use Rattle.edges.specs.Edges.{luma_grid, chroma_grid, edge}
use Rattle.block.specs.Block.{Lent, lent}
use Rattle.record.specs.Record.{intra_of}
use Rattle.correct.specs.Answer.{column_of}
use Rattle.covering.specs.Front.{Tile}
use Rattle.drawn.specs.Calls.{RecordCall, Records}
use Rattle.tiles.specs.Tiles.{Fix, InTiles}

abbrev pub decoded : Frame
decoded =
    record {
      FrameWidth = 80;
      FrameHeight = 8;
      sx = λ plane. cond (eqb plane 0) 0 1;
      sy = λ plane. cond (eqb plane 0) 0 1;
      MiSize = λ _ _. 12;
      Skip = λ _ _. false;
      is_intra = λ _ _. true;
      TxSizes = λ plane row col. cond (eqb plane 0) (cond (ltb col 16) 1 4) (cond (ltb col 8) 0 3);
    }

abbrev pub call : ℕ → ℕ → ℕ → RecordCall
call x t u = record { block = intra_of 80 8 420 x 0 12 t 1 u; tx-masks = []; values = replicate 64 20 }

abbrev pub fresh : Lent → Lent
fresh m = lent m.levels m.masks (replicate 20 2) (replicate 2 2) (replicate 10 1) (replicate 1 1)

abbrev pub clear : Lent
clear = fresh (lent (replicate 160 0) (replicate 640 0) [] [] [] [])

abbrev pub fix_of : Lent → Fix
fix_of m = record { start = column_of 80 8 420 64 0 1; context = m.left; context-uv = m.left-uv }

abbrev pub tiles_of : ℕ → ℕ → ℕ → List Tile
tiles_of a b h = record { x0 = 0; x1 = a; y0 = 0; y1 = h } ∷ record { x0 = a; x1 = b; y0 = 0; y1 = h } ∷ []

pub record Example : Type 0 where
  pub between : Lent
  pub after : Lent
  pub masks : List ℕ
  pub first : Records 20 (call 0 1 0) clear between
  pub second : Records 20 (call 16 4 3) (fresh between) after
  pub luma : InTiles decoded 0 (luma_grid 20 2) 2 (tiles_of 16 20 2) (fix_of between ∷ []) clear.masks after.masks masks
  pub chroma : InTiles decoded 1 (chroma_grid 1 1 20 2) 1 (tiles_of 8 10 1) (fix_of between ∷ []) clear.masks after.masks masks
  pub luma-edge : edge (luma_grid 20 2) masks columns (16, 0) ≡ some 1
  pub chroma-edge : edge (chroma_grid 1 1 20 2) masks columns (8, 0) ≡ some 0
