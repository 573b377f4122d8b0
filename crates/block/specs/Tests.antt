-- The tests of the numbers 4 to 7, in the order in which they are asked.
--   shape_bad              4: layout, frame size, a chroma pair at 4:0:0
--   code_bad               5: a code above its range; the chroma transform's counts only with a chroma pair
--   place_bad              5: not a multiple of the block's own sides, or past the frame
--   luma_tx_bad, chroma_tx_bad, tx_bad   5: a transform wider or higher than the block in its plane
--   max_tx_bad              5: of an inter block, neither the largest transform nor 4x4
--   ref_bad                5: of an inter block, a reference above 7
--   block_bad              any of 5 but code_bad
--   context_bad n most c   the context c is shorter than n, or has a value above most among them
--   luma_contexts_bad, chroma_contexts_bad, contexts_bad   6, in a plane in which units are recorded, and in either
--   length_bad             7: levels, their level-stride, masks
--   number                the number of the first of them
use Rattle.std.specs.Prelude.{Bool, cond, not, ◌&&◌, ◌||◌, List, ℕ, ◌%◌, eqb, ltb, length, get_or}
use Rattle.loops.specs.Any.{any_below}
use Rattle.standard.specs.Sizes.{Tx_Wide, Tx_High, Max_Tx_Size_Rect}
use Rattle.units.specs.Units.{chroma_units}
use Rattle.units.specs.Layout.{layout_ok, has_chroma}
use Rattle.units.specs.Frame.{frame_ok}
use Rattle.units.specs.Memory.{levels_ok, masks_ok}
use Rattle.block.specs.declared.Block.{Block}
use Rattle.block.specs.Block.{w4, h4, block_width, block_height, ss-hor, ss-ver, bw4, bh4, cbw4, cbh4, sees_luma, sees_chroma, Lent}

abbrev pub shape_bad : Block → Bool
shape_bad b = (not (layout_ok b.layout) || not (frame_ok b.width.0 b.height.0)) || (b.chroma && not (has_chroma b.layout))

abbrev pub code_bad : Block → Bool
code_bad b = (ltb 21 b.size || ltb 18 b.tx) || (b.chroma && ltb 18 b.uvtx)

abbrev pub place_bad : Block → Bool
place_bad b = (not (eqb (b.x.0 % block_width b) 0) || not (eqb (b.y.0 % block_height b) 0)) || (ltb (w4 b) b.x.0 || ltb (h4 b) b.y.0)

abbrev pub luma_tx_bad : Block → Bool
luma_tx_bad b = ltb (block_width b) (Tx_Wide b.tx) || ltb (block_height b) (Tx_High b.tx)

abbrev pub chroma_tx_bad : Block → Bool
chroma_tx_bad b =
    b.chroma
    && (ltb (chroma_units (ss-hor b) (block_width b)) (Tx_Wide b.uvtx) || ltb (chroma_units (ss-ver b) (block_height b)) (Tx_High b.uvtx))

abbrev pub tx_bad : Block → Bool
tx_bad b = luma_tx_bad b || chroma_tx_bad b

abbrev pub max_tx_bad : Block → Bool
max_tx_bad b = b.inter && (not (eqb b.tx (Max_Tx_Size_Rect b.size)) && not (eqb b.tx 0))

abbrev pub ref_bad : Block → Bool
ref_bad b = b.inter && ltb 7 b.reference

abbrev pub block_bad : Block → Bool
block_bad b = place_bad b || (tx_bad b || (max_tx_bad b || ref_bad b))

abbrev pub context_bad : ℕ → ℕ → List ℕ → Bool
context_bad n most c = ltb (length c) n || any_below n (λ i. ltb most (get_or c i 0))

abbrev pub luma_contexts_bad : Block → List ℕ → List ℕ → Bool
luma_contexts_bad b a l = sees_luma b && (context_bad (bw4 b) 2 a || context_bad (bh4 b) 2 l)

abbrev pub chroma_contexts_bad : Block → List ℕ → List ℕ → Bool
chroma_contexts_bad b a l = sees_chroma b && (context_bad (cbw4 b) 1 a || context_bad (cbh4 b) 1 l)

abbrev pub contexts_bad : Block → List ℕ → List ℕ → List ℕ → List ℕ → Bool
contexts_bad b a l a-uv l-uv = luma_contexts_bad b a l || chroma_contexts_bad b a-uv l-uv

abbrev pub length_bad : Block → ℕ → ℕ → ℕ → Bool
length_bad b level-stride levels masks = not (levels_ok levels level-stride (w4 b) (h4 b)) || not (masks_ok masks (w4 b) (h4 b))

unfoldable pub number : Block → ℕ → Lent → ℕ
number b level-stride m =
    cond (shape_bad b) 4
    (cond (code_bad b) 5
    (cond (place_bad b) 5
    (cond (tx_bad b) 5
    (cond (max_tx_bad b) 5
    (cond (ref_bad b) 5
    (cond (luma_contexts_bad b m.above m.left) 6
    (cond (chroma_contexts_bad b m.above-uv m.left-uv) 6
    (cond (length_bad b level-stride (length m.levels) (length m.masks)) 7 0))))))))
