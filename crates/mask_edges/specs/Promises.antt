-- What is promised of the recorders: the masks and the contexts that they leave are the recording of their block.
use Rattle.std.specs.Prelude.{ℕ, ◌≤◌, ◌<◌, Bool, List, length}
use Rattle.standard.specs.Sizes.{Tx_Wide, Tx_High}
use Rattle.units.specs.Masks.{luma_bit}
use Rattle.units.specs.Sizes.{luma_class, chroma_class}
use Rattle.decomp.specs.Cells.{Covers}
use Rattle.mask_edges.specs.Recording.{Room, Recorded, Contexts, chroma_bits, intra_block, inter_block, chroma_block}
use Rattle.mask_edges.specs.Folds.{stores, intra_masks, chroma_masks, inter_masks, last_row, last_column}

pub record Promises : Type 0 where
  pub intra : (by4 bx4 w4 h4 t : ℕ) (a l ms : List ℕ) → Room by4 bx4 w4 h4 0 0 (length ms) (length a) (length l) → t < 19
      → Recorded (intra_block by4 bx4 w4 h4 t a l) luma_bit ms (intra_masks by4 bx4 w4 h4 t a l ms)
      × Contexts (intra_block by4 bx4 w4 h4 t a l) (stores w4 (λ _. luma_class (Tx_High t)) a) (stores h4 (λ _. luma_class (Tx_Wide t)) l)
  pub inter : (by4 bx4 w4 h4 : ℕ) (skip : Bool) (t : ℕ) (tx-masks a l ms : List ℕ) → Room by4 bx4 w4 h4 0 0 (length ms) (length a) (length l)
      → Covers t w4 h4
      → Recorded (inter_block by4 bx4 w4 h4 skip t tx-masks a l) luma_bit ms (inter_masks by4 bx4 w4 h4 skip t tx-masks a l ms)
      × Contexts (inter_block by4 bx4 w4 h4 skip t tx-masks a l) (stores w4 (last_row tx-masks t w4 h4) a) (stores h4 (last_column tx-masks t w4 h4) l)
  pub chroma : (by4 bx4 w4 h4 : ℕ) (skip : Bool) (t ss-hor ss-ver : ℕ) (a l ms : List ℕ) → Room by4 bx4 w4 h4 ss-hor ss-ver (length ms) (length a) (length l) → t < 19
      → ss-hor ≤ 1 → ss-ver ≤ 1
      → Recorded (chroma_block by4 bx4 w4 h4 skip t a l) (chroma_bits ss-hor ss-ver) ms (chroma_masks by4 bx4 w4 h4 skip t ss-hor ss-ver a l ms)
      × Contexts (chroma_block by4 bx4 w4 h4 skip t a l) (stores w4 (λ _. chroma_class (Tx_High t)) a) (stores h4 (λ _. chroma_class (Tx_Wide t)) l)
