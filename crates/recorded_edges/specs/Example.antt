-- Three blocks that meet the hypotheses, intra, each with one transform: two of 8x8 at 4:0:0, and one of 16x16 at 4:2:0.
--   frame_with width first before t   the standard's frame of `width` by 8 samples: blocks of 8x8 from unit `first` on, before it those of code `before` with transform t
--   coded_at, block_at                the block at unit `first`, in the frame and of the call
--   lent_with left                    clear masks, contexts above as a frame begins, and `left` on the left
--   Beside                            document 01's example of a listing: 16 by 8 samples, a block at unit 2 beside one at unit 0, whose context tells 8x8. The edge between them is 8 wide
--   TileStart                         72 by 8 samples, the block at unit 16, where a tile begins, and so do its contexts; before it blocks of 4x4. The edge is recorded with width 8, and its
--                correction makes it 4
--   frame_uv, coded_uv, block_uv, lent_uv   32 by 16 samples at 4:2:0, blocks of 16x16 with chroma transforms of 8x8; the second, at unit 4, beside the first
--   InChroma                         the edge between them is 6 wide in chroma
use Rattle.std.specs.Prelude.{true, false, cond, List, [], ◌∷◌, ◌≡◌, ℕ, ◌<◌, eqb, ltb, get_or, replicate}
use Rattle.std.proofs.Math.Option.{some, none}
use Rattle.plane.specs.Line.{columns, Piece}
use Rattle.standard.specs.Edge.{Frame}
use Rattle.edges.specs.Edges.{edge}
use Rattle.block.specs.declared.Block.{Block}
use Rattle.block.specs.Block.{Lent, lent}
use Rattle.record.specs.Record.{intra_of, RecordAnswer}
use Rattle.correct.specs.Answer.{column_of, CorrectAnswer}
use Rattle.agree.specs.Legal.{Coded, Tells}
use Rattle.covering.specs.Standard.{transform_at}
use Rattle.recorded_edges.specs.Held.{block_grid, SeenIn, HoldsBlock, ContextTells, standard_edge, width_in}

abbrev pub frame_with : ℕ → ℕ → ℕ → ℕ → Frame
frame_with width first before t =
    record {
      FrameWidth = width;
      FrameHeight = 8;
      sx = λ _. 0;
      sy = λ _. 0;
      MiSize = λ _ col. cond (ltb col first) before 3;
      Skip = λ _ _. false;
      is_intra = λ _ _. true;
      TxSizes = λ _ _ col. cond (ltb col first) t 1;
    }

abbrev pub coded_at : ℕ → Coded
coded_at first = record { MiRow = 0; MiCol = first; MiSize = 3; Skip = false; is_intra = true }

abbrev pub block_at : ℕ → ℕ → Block
block_at width first = intra_of width 8 400 first 0 3 1 0 0

abbrev pub lent_with : List ℕ → Lent
lent_with left = lent (replicate 144 0) (replicate 640 0) (2 ∷ 2 ∷ []) left [] []

pub record Beside : Type 0 where
  pub after : Lent
  pub answer : RecordAnswer (block_at 16 2) 18 (replicate 64 0) [] 0 (lent_with (1 ∷ 1 ∷ [])) after
  pub holds : HoldsBlock (frame_with 16 2 3 1) 0 (coded_at 2) true (block_at 16 2) []
  pub told : (p : Piece) → SeenIn true (block_at 16 2) columns p → ContextTells (frame_with 16 2 3 1) 0 true (block_at 16 2) (lent_with (1 ∷ 1 ∷ [])) columns p
  pub standard : (y : ℕ) → y < 2 → standard_edge (frame_with 16 2 3 1) 0 columns (2, y) ≡ some 8
  pub between : (y : ℕ) → y < 2 → width_in 0 (edge (block_grid true (block_at 16 2)) after.masks columns (2, y)) ≡ some 8
  pub inside : (y : ℕ) → y < 2 → edge (block_grid true (block_at 16 2)) after.masks columns (3, y) ≡ none

pub record TileStart : Type 0 where
  pub after : Lent
  pub answer : RecordAnswer (block_at 72 16) 18 (replicate 64 0) [] 0 (lent_with (2 ∷ 2 ∷ [])) after
  pub holds : HoldsBlock (frame_with 72 16 0 0) 0 (coded_at 16) true (block_at 72 16) []
  pub masks : List ℕ
  pub correction : CorrectAnswer (column_of 72 8 400 64 0 1) (0 ∷ 0 ∷ []) [] 0 after.masks masks
  pub kept : (y : ℕ) → y < 2 → Tells 0 0 (transform_at (frame_with 72 16 0 0) 0 columns y 15) (get_or (0 ∷ 0 ∷ []) y 0)
  pub standard : (y : ℕ) → y < 2 → standard_edge (frame_with 72 16 0 0) 0 columns (16, y) ≡ some 4
  pub recorded : (y : ℕ) → y < 2 → width_in 0 (edge (block_grid true (block_at 72 16)) after.masks columns (16, y)) ≡ some 8
  pub corrected : (y : ℕ) → y < 2 → width_in 0 (edge (block_grid true (block_at 72 16)) masks columns (16, y)) ≡ some 4

abbrev pub frame_uv : Frame
frame_uv =
    record {
      FrameWidth = 32;
      FrameHeight = 16;
      sx = λ plane. cond (eqb plane 0) 0 1;
      sy = λ plane. cond (eqb plane 0) 0 1;
      MiSize = λ _ _. 6;
      Skip = λ _ _. false;
      is_intra = λ _ _. true;
      TxSizes = λ plane _ _. cond (eqb plane 0) 2 1;
    }

abbrev pub coded_uv : Coded
coded_uv = record { MiRow = 0; MiCol = 4; MiSize = 6; Skip = false; is_intra = true }

abbrev pub block_uv : Block
block_uv = intra_of 32 16 420 4 0 6 2 1 1

abbrev pub lent_uv : Lent
lent_uv = lent (replicate 128 0) (replicate 640 0) (replicate 4 2) (replicate 4 2) (1 ∷ 1 ∷ []) (1 ∷ 1 ∷ [])

pub record InChroma : Type 0 where
  pub after : Lent
  pub answer : RecordAnswer block_uv 8 (replicate 64 0) [] 0 lent_uv after
  pub holds : HoldsBlock frame_uv 1 coded_uv false block_uv []
  pub told : (p : Piece) → SeenIn false block_uv columns p → ContextTells frame_uv 1 false block_uv lent_uv columns p
  pub standard : (y : ℕ) → y < 2 → standard_edge frame_uv 1 columns (2, y) ≡ some 6
  pub between : (y : ℕ) → y < 2 → width_in 1 (edge (block_grid false block_uv) after.masks columns (2, y)) ≡ some 6
