-- The three examples: numbers and edges are computed, and what the frame holds is read off.
use mathlib.Core.Path.{◌≡◌, refl}
use mathlib.Core.Bool.{true, false}
use mathlib.Core.List.{List, [], ◌∷◌}
use mathlib.Core.Option.{some, none}
use Prim.Native.Nat.{ℕ, ◌-◌, ◌%◌, ◌<◌}
use native.Mathlib.Omega.{arith}
use lib.ListN.{get_or, replicate}
use borrow.Author.Tests.{le-ltb}
use Rattle.loops.specs.Any.{any_below}
use Rattle.loops.proofs.Tables.{each_at}
use Rattle.bits.specs.Bit.{bit, has_bit}
use Rattle.bits.specs.Mark.{is_set, mark, unmark, marks}
use Rattle.plane.specs.Line.{columns, Piece}
use Rattle.standard.specs.Sizes.{Num_4x4_Blocks_Wide, Num_4x4_Blocks_High, Tx_Wide, Tx_High}
use Rattle.standard.specs.FilterSize.{filter_size, filter_len}
use Rattle.standard.specs.Edge.{is_tx_edge, is_block_edge, apply_filter, edge_size}
use Rattle.units.specs.Masks.{luma_bit, chroma_bit}
use Rattle.units.specs.Sizes.{log2}
use Rattle.edges.specs.Edges.{edge, edge_bit}
use Rattle.mask_edges.specs.Folds.{block_edge, step_edges, grid_pass, grid_masks}
use Rattle.mask_edges.specs.Folds as folds
use Rattle.block.specs.Block.{bw4, bh4, cbw4, cbh4, Lent, lent}
use Rattle.block.specs.Tests.{number}
use Rattle.record.specs.Record.{in_record, RecordAnswer, luma_levels, chroma_levels, luma_masks, chroma_masks, luma_above, luma_left, chroma_above, chroma_left}
use Rattle.correct.specs.Answer.{column_of, CorrectAnswer}
use Rattle.correct.specs.Correct.{cleared, corrected, correct_line, done}
use Rattle.correct.specs.Tests as correct
use Rattle.agree.specs.Legal.{Tells}
use Rattle.covering.specs.Standard.{transform_at}
use Rattle.recorded_edges.specs.Held.{block_grid, SeenIn, HoldsBlock, ContextTells, standard_edge, width_in}
use Rattle.recorded_edges.specs.Example.{frame_with, coded_at, block_at, lent_with, Beside, TileStart, frame_uv, coded_uv, block_uv, lent_uv, InChroma}

-- what an accepted call leaves
abbrev left : ℕ → ℕ → List ℕ → Lent
left width first l =
    lent (luma_levels (block_at width first) 18 (replicate 64 0) (replicate 144 0)) (luma_masks (block_at width first) [] (2 ∷ 2 ∷ []) l (replicate 640 0))
    (luma_above (block_at width first) [] (2 ∷ 2 ∷ [])) (luma_left (block_at width first) [] l) [] []

holds : (width first before t : ℕ) → first % 2 ≡ 0 → HoldsBlock (frame_with width first before t) 0 (coded_at first) true (block_at width first) []
unfolding Num_4x4_Blocks_Wide Num_4x4_Blocks_High
holds width first before t e =
    record {
      plane-is = refl;
      right-ss = refl;
      down-ss = refl;
      row = refl;
      col = refl;
      size = refl;
      intra = refl;
      skip = refl;
      legal = record {
        code = omega arith;
        across = record { sub = omega arith; multiple = e; has = λ z. absurd (omega arith) };
        down = record { sub = omega arith; multiple = refl; has = λ z. absurd (omega arith) };
        covers = λ row col r c. (rw (le-ltb col first c.0) refl, refl, refl);
      };
      known = λ p s. rw (le-ltb p.0 first s.across.0) refl;
    }

-- ---- beside a block

beside-answer : RecordAnswer (block_at 16 2) 18 (replicate 64 0) [] 0 (lent_with (1 ∷ 1 ∷ [])) (left 16 2 (1 ∷ 1 ∷ []))
unfolding number bw4 bh4 cbw4 cbh4 any_below Num_4x4_Blocks_Wide Num_4x4_Blocks_High Tx_Wide Tx_High
beside-answer = record { code = refl; levels = refl; masks = refl; above = refl; left = refl; above-uv = refl; left-uv = refl }

between : (y : ℕ) → y < 2 → width_in 0 (edge (block_grid true (block_at 16 2)) (left 16 2 (1 ∷ 1 ∷ [])).masks columns (2, y)) ≡ some 8
unfolding bw4 bh4 Num_4x4_Blocks_Wide Num_4x4_Blocks_High Tx_Wide Tx_High log2 in_record grid_masks grid_pass block_edge step_edges folds.edge_bit mark marks is_set has_bit bit edge edge_bit luma_bit
between = each_at 2 (λ y. width_in 0 (edge (block_grid true (block_at 16 2)) (left 16 2 (1 ∷ 1 ∷ [])).masks columns (2, y)) ≡ some 8) (refl, (refl, tt))

inside : (y : ℕ) → y < 2 → edge (block_grid true (block_at 16 2)) (left 16 2 (1 ∷ 1 ∷ [])).masks columns (3, y) ≡ none
unfolding bw4 bh4 Num_4x4_Blocks_Wide Num_4x4_Blocks_High Tx_Wide Tx_High log2 in_record grid_masks grid_pass block_edge step_edges folds.edge_bit mark marks is_set has_bit bit edge edge_bit luma_bit
inside = each_at 2 (λ y. edge (block_grid true (block_at 16 2)) (left 16 2 (1 ∷ 1 ∷ [])).masks columns (3, y) ≡ none) (refl, (refl, tt))

tells : (y : ℕ) → y < 2 → Tells 0 0 1 (get_or (1 ∷ 1 ∷ []) (y - 0) 0)
unfolding Tx_Wide Tx_High log2
tells =
    each_at 2 (λ y. Tells 0 0 1 (get_or (1 ∷ 1 ∷ []) (y - 0) 0))
    (record { code = omega arith; class = refl }, (record { code = omega arith; class = refl }, tt))

told : (p : Piece) → SeenIn true (block_at 16 2) columns p → ContextTells (frame_with 16 2 3 1) 0 true (block_at 16 2) (lent_with (1 ∷ 1 ∷ [])) columns p
unfolding bh4 Num_4x4_Blocks_High
told p s e = rw e (tells p.1 (omega (arith, s.down)))

beside-standard : (y : ℕ) → y < 2 → standard_edge (frame_with 16 2 3 1) 0 columns (2, y) ≡ some 8
unfolding apply_filter is_tx_edge is_block_edge edge_size filter_size filter_len Num_4x4_Blocks_Wide Num_4x4_Blocks_High Tx_Wide Tx_High
beside-standard = each_at 2 (λ y. standard_edge (frame_with 16 2 3 1) 0 columns (2, y) ≡ some 8) (refl, (refl, tt))

pub beside : Beside
beside =
    record {
      after = left 16 2 (1 ∷ 1 ∷ []);
      answer = beside-answer;
      holds = holds 16 2 3 1 refl;
      told = told;
      standard = beside-standard;
      between = between;
      inside = inside;
    }

-- ---- a tile's start

abbrev now : List ℕ
now = done (column_of 72 8 400 64 0 1) (0 ∷ 0 ∷ []) [] (left 72 16 (2 ∷ 2 ∷ [])).masks

start-answer : RecordAnswer (block_at 72 16) 18 (replicate 64 0) [] 0 (lent_with (2 ∷ 2 ∷ [])) (left 72 16 (2 ∷ 2 ∷ []))
unfolding number bw4 bh4 cbw4 cbh4 any_below Num_4x4_Blocks_Wide Num_4x4_Blocks_High Tx_Wide Tx_High
start-answer = record { code = refl; levels = refl; masks = refl; above = refl; left = refl; above-uv = refl; left-uv = refl }

correction : CorrectAnswer (column_of 72 8 400 64 0 1) (0 ∷ 0 ∷ []) [] 0 (left 72 16 (2 ∷ 2 ∷ [])).masks now
unfolding correct.number any_below bw4 bh4 Num_4x4_Blocks_Wide Num_4x4_Blocks_High Tx_Wide Tx_High log2 in_record grid_masks grid_pass block_edge step_edges folds.edge_bit mark marks
correction = record { code = refl; masks = refl }

recorded : (y : ℕ) → y < 2 → width_in 0 (edge (block_grid true (block_at 72 16)) (left 72 16 (2 ∷ 2 ∷ [])).masks columns (16, y)) ≡ some 8
unfolding bw4 bh4 Num_4x4_Blocks_Wide Num_4x4_Blocks_High Tx_Wide Tx_High log2 in_record grid_masks grid_pass block_edge step_edges folds.edge_bit mark marks is_set has_bit bit edge edge_bit luma_bit
recorded = each_at 2 (λ y. width_in 0 (edge (block_grid true (block_at 72 16)) (left 72 16 (2 ∷ 2 ∷ [])).masks columns (16, y)) ≡ some 8) (refl, (refl, tt))

corrected-now : (y : ℕ) → y < 2 → width_in 0 (edge (block_grid true (block_at 72 16)) now columns (16, y)) ≡ some 4
unfolding bw4 bh4 Num_4x4_Blocks_Wide Num_4x4_Blocks_High Tx_Wide Tx_High log2 in_record grid_masks grid_pass block_edge step_edges folds.edge_bit mark unmark marks is_set
    has_bit bit edge edge_bit luma_bit cleared corrected correct_line
corrected-now = each_at 2 (λ y. width_in 0 (edge (block_grid true (block_at 72 16)) now columns (16, y)) ≡ some 4) (refl, (refl, tt))

kept : (y : ℕ) → y < 2 → Tells 0 0 (transform_at (frame_with 72 16 0 0) 0 columns y 15) (get_or (0 ∷ 0 ∷ []) y 0)
unfolding Tx_Wide Tx_High log2
kept =
    each_at 2 (λ y. Tells 0 0 0 (get_or (0 ∷ 0 ∷ []) y 0)) (record { code = omega arith; class = refl }, (record { code = omega arith; class = refl }, tt))

start-standard : (y : ℕ) → y < 2 → standard_edge (frame_with 72 16 0 0) 0 columns (16, y) ≡ some 4
unfolding apply_filter is_tx_edge is_block_edge edge_size filter_size filter_len Num_4x4_Blocks_Wide Num_4x4_Blocks_High Tx_Wide Tx_High
start-standard = each_at 2 (λ y. standard_edge (frame_with 72 16 0 0) 0 columns (16, y) ≡ some 4) (refl, (refl, tt))

pub tile-start : TileStart
tile-start =
    record {
      after = left 72 16 (2 ∷ 2 ∷ []);
      answer = start-answer;
      holds = holds 72 16 0 0 refl;
      masks = now;
      correction = correction;
      kept = kept;
      standard = start-standard;
      recorded = recorded;
      corrected = corrected-now;
    }

-- ---- chroma

left_uv : Lent
left_uv =
    lent (chroma_levels block_uv 8 (replicate 64 0) (luma_levels block_uv 8 (replicate 64 0) lent_uv.levels))
    (chroma_masks block_uv lent_uv.above-uv lent_uv.left-uv (luma_masks block_uv [] lent_uv.above lent_uv.left lent_uv.masks))
    (luma_above block_uv [] lent_uv.above) (luma_left block_uv [] lent_uv.left) (chroma_above block_uv lent_uv.above-uv) (chroma_left block_uv lent_uv.left-uv)

uv-answer : RecordAnswer block_uv 8 (replicate 64 0) [] 0 lent_uv left_uv
unfolding left_uv number bw4 bh4 cbw4 cbh4 any_below Num_4x4_Blocks_Wide Num_4x4_Blocks_High Tx_Wide Tx_High
uv-answer = record { code = refl; levels = refl; masks = refl; above = refl; left = refl; above-uv = refl; left-uv = refl }

uv-holds : HoldsBlock frame_uv 1 coded_uv false block_uv []
unfolding Num_4x4_Blocks_Wide Num_4x4_Blocks_High
uv-holds =
    record {
      plane-is = refl;
      right-ss = refl;
      down-ss = refl;
      row = refl;
      col = refl;
      size = refl;
      intra = refl;
      skip = refl;
      legal = record {
        code = omega arith;
        across = record { sub = omega arith; multiple = refl; has = λ _ z. absurd (omega arith) };
        down = record { sub = omega arith; multiple = refl; has = λ _ z. absurd (omega arith) };
        covers = λ row col r c. (refl, refl, refl);
      };
      known = λ p s. refl;
    }

uv-tells : (y : ℕ) → y < 2 → Tells 1 0 1 (get_or (1 ∷ 1 ∷ []) (y - 0) 0)
unfolding Tx_Wide Tx_High
uv-tells =
    each_at 2 (λ y. Tells 1 0 1 (get_or (1 ∷ 1 ∷ []) (y - 0) 0))
    (record { code = omega arith; class = refl }, (record { code = omega arith; class = refl }, tt))

uv-told : (p : Piece) → SeenIn false block_uv columns p → ContextTells frame_uv 1 false block_uv lent_uv columns p
unfolding cbh4 Num_4x4_Blocks_High
uv-told p s e = uv-tells p.1 (omega (arith, s.down))

uv-standard : (y : ℕ) → y < 2 → standard_edge frame_uv 1 columns (2, y) ≡ some 6
unfolding apply_filter is_tx_edge is_block_edge edge_size filter_size filter_len Num_4x4_Blocks_Wide Num_4x4_Blocks_High Tx_Wide Tx_High
uv-standard = each_at 2 (λ y. standard_edge frame_uv 1 columns (2, y) ≡ some 6) (refl, (refl, tt))

uv-between : (y : ℕ) → y < 2 → width_in 1 (edge (block_grid false block_uv) left_uv.masks columns (2, y)) ≡ some 6
unfolding left_uv bw4 bh4 cbw4 cbh4 Num_4x4_Blocks_Wide Num_4x4_Blocks_High Tx_Wide Tx_High log2 in_record grid_masks grid_pass block_edge step_edges folds.edge_bit mark marks
    is_set has_bit bit edge edge_bit chroma_bit
uv-between = each_at 2 (λ y. width_in 1 (edge (block_grid false block_uv) left_uv.masks columns (2, y)) ≡ some 6) (refl, (refl, tt))

pub in-chroma : InChroma
in-chroma = record { after = left_uv; answer = uv-answer; holds = uv-holds; told = uv-told; standard = uv-standard; between = uv-between }
