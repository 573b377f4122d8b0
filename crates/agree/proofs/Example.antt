-- Two legal blocks, so that the promises are not empty: a frame of 16 by 8 at 4:2:0, all 4x4 blocks, intra. Of four of them the last, at odd places, has the
-- chroma unit; the second such unit finds the first one's class in its left context, and both say width 4.
use mathlib.Core.Path.{◌≡◌, refl}
use mathlib.Core.Bool.{true, false, cond}
use mathlib.Core.List.{List, [], ◌∷◌}
use Prim.Native.Nat.{ℕ, ◌%◌}
use native.Mathlib.Nat.{mod-one}
use native.Mathlib.Omega.{arith}
use lib.Dec.{eqb}
use Rattle.standard.specs.Sizes.{Num_4x4_Blocks_Wide, Num_4x4_Blocks_High, Tx_Wide, Tx_High}
use Rattle.standard.specs.Edge.{Frame, apply_filter, edge_size}
use Rattle.standard.specs.FilterSize.{filter_len}
use Rattle.mask_edges.specs.Recording.{Block, columns, is_edge, class_at, context_after, chroma_block}
use Rattle.walk.specs.Walk.{width_of}
use Rattle.agree.specs.Legal.{Coded, Legal, Shows, Tells}
use Rattle.agree.proofs.Theorems.{promises}

abbrev frame : Frame
frame =
    record {
      FrameWidth = 16;
      FrameHeight = 8;
      sx = λ p. cond (eqb p 0) 0 1;
      sy = λ p. cond (eqb p 0) 0 1;
      MiSize = λ _ _. 0;
      Skip = λ _ _. false;
      is_intra = λ _ _. true;
      TxSizes = λ _ _ _. 0;
    }

-- the last of the four blocks of an 8x8
abbrev fourth : ℕ → Coded
fourth col = record { MiRow = 1; MiCol = col; MiSize = 0; Skip = false; is_intra = true }

abbrev block : ℕ → List ℕ → Block
block unit l = chroma_block 0 unit 1 1 false 0 (1 ∷ []) l

legal : (col : ℕ) → col % 2 ≡ 1 → Legal frame 1 (fourth col)
unfolding Num_4x4_Blocks_Wide Num_4x4_Blocks_High
legal col odd =
    record {
      code = omega arith;
      across = record { sub = omega arith; multiple = mod-one col; has = λ _ _. odd };
      down = record { sub = omega arith; multiple = refl; has = λ _ _. refl };
      covers = λ _ _ _ _. (refl, refl, refl);
    }

shown : (col unit : ℕ) (l : List ℕ) → Shows frame 1 (fourth col) (block unit l)
unfolding Num_4x4_Blocks_Wide Num_4x4_Blocks_High Tx_Wide Tx_High
shown col unit l =
    promises.chroma frame 1 (fourth col) 0 unit 1 1 0 (1 ∷ []) l (omega arith)
    (record { wide-seen = omega arith; high-seen = omega arith; code = omega arith; fits = omega arith; known = λ _ _ _ _. refl })

-- the left context after the first, and the edge between the two
told : Tells 1 0 0 (context_after (columns (block 0 (1 ∷ []))) 0)
told = (promises.left_after frame 1 (fourth 1) (block 0 (1 ∷ [])) (shown 1 0 (1 ∷ [])) 0).0 (omega arith)

between : (l : ℕ) → l ≡ context_after (columns (block 0 (1 ∷ []))) 0
    → (is_edge (columns (block 1 (l ∷ []))) 0 0 ≡ apply_filter frame 1 0 0 2) × (width_of 1 (class_at (columns (block 1 (l ∷ []))) 0 0) ≡ filter_len 1 (edge_size frame 1 0 0 2))
between l e =
    let a = (promises.agrees frame 1 (fourth 3) (block 1 (l ∷ [])) (legal 3 refl) (shown 3 1 (l ∷ [])) 0 0 (omega arith) (omega arith)).0 in
    (a.edge, a.width (λ _. rw e told))
