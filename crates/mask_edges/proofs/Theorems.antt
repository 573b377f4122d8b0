-- The masks and contexts that the recorders leave are the recording of their block: both passes set the bits of their edges, and the contexts hold the last classes.
use mathlib.Core.Path.{◌≡◌, refl, ◌∙◌}
use mathlib.Core.Bool.{Bool, true, false, not}
use mathlib.Core.Logic.{by_cases}
use mathlib.Core.List.{List}
use Prim.Native.Nat.{ℕ, zero, suc, ◌+◌, ◌-◌, ◌*◌, ◌/◌, ◌≤◌, ◌<◌}
use native.Mathlib.Omega.{arith}
use native.Mathlib.Nat.{lt_of_lt_of_le}
use native.Mathlib.Decide.{dec_lt}
use lib.ListN.{length, get_or}
use borrow.Author.Tests.{lt-ltb, le-ltb}
use Rattle.plane.specs.Line.{Pass}
use Rattle.plane.specs.Line as line
use Rattle.standard.specs.Sizes.{Tx_Wide, Tx_High}
use Rattle.bits.specs.Mark.{Adds}
use Rattle.bits.proofs.Marks.{adds_then}
use Rattle.units.specs.Masks.{luma_bit, chroma_bit, half_units}
use Rattle.units.specs.Sizes.{luma_class, chroma_class}
use Rattle.units.proofs.Rules.{tx-rule}
use Rattle.decomp.specs.Cells.{Covers}
use Rattle.mask_edges.specs.Recording.{Room, Block, Sweep, columns, rows, edges, context_after, Recorded, Contexts, chroma_bits, block_of, inter_block}
use Rattle.mask_edges.specs.Folds.{edge_bit, classes, stores, columns_of, rows_of, grid_masks, cell_masks, tables, inter_masks, last_row, last_column}
use Rattle.mask_edges.specs.Promises.{Promises}
use Rattle.mask_edges.proofs.Words.{bit_in_lem}
use Rattle.mask_edges.proofs.BlockPasses.{halves, chroma-low}
use Rattle.mask_edges.proofs.CellTables.{Reads, luma-low, tables-columns, tables-rows}
use Rattle.mask_edges.proofs.Contexts.{stores-in, stores-out}
use Rattle.mask_edges.proofs.Edges.{adds-grid, adds-cells}

-- ---- contexts

-- a context that takes the block's last classes
taken : (S : Sweep) (f : ℕ → ℕ) (c : List ℕ) → S.along ≤ length c → ((v : ℕ) → v < S.along → f v ≡ S.class (S.side (S.across - 1) v))
    → ((v : ℕ) → get_or c v 0 ≡ S.context v) → (v : ℕ) → get_or (stores S.along f c) v 0 ≡ context_after S v
taken S f c l h g v =
    by_cases (dec_lt v S.along) (λ q. rw (lt-ltb v S.along q) (stores-in f c S.along v l q ∙ h v q))
    (λ q. rw (le-ltb v S.along (omega arith)) (stores-out f c S.along v (omega arith) ∙ g v))

-- ---- masks

recorded : (B : Block) (bit : ℕ → ℕ → ℕ → ℕ → ℕ) (ms : List ℕ) (g h : List ℕ → List ℕ) → Adds (length ms) g (edges (columns B) (bit 0))
    → Adds (length ms) h (edges (rows B) (bit 1)) → Recorded B bit ms (h (g ms))
recorded B bit ms g h G H =
    let A = adds_then (length ms) g h (edges (columns B) (bit 0)) (edges (rows B) (bit 1)) G H in
    record { long = A.long ms refl; bits = A.bits ms refl }

-- the bits of a block lie in its record
fits : (luma : Bool) (half : ℕ) (d : Pass) (unit place across along n : ℕ) → half ≤ 16 → unit + across ≤ 32 → place + along ≤ 2 * half → 640 ≤ n
    → (u k v : ℕ) → u < across → k < classes luma → v < along → edge_bit luma half d (unit + u) k (place + v) / 16 < n
fits luma half d unit place across along n hh hu hq hn u k v lu lk lv =
    lt_of_lt_of_le (bit_in_lem luma half d (unit + u) k (place + v) (omega arith) lk hh (omega arith)) hn

-- ---- the recorders

-- both passes of a plane; ss 0 for luma
abbrev pub bits_of : Bool → ℕ → ℕ → ℕ → ℕ → ℕ → ℕ → ℕ
bits_of luma ss-hor ss-ver zero = edge_bit luma (half_units ss-ver) line.columns
bits_of luma ss-hor ss-ver (suc pass) = edge_bit luma (half_units ss-hor) line.rows

module _ (by4 bx4 w4 h4 ss-hor ss-ver : ℕ) (a l ms : List ℕ) (r : Room by4 bx4 w4 h4 ss-hor ss-ver (length ms) (length a) (length l)) (sh : ss-hor ≤ 1) (sv : ss-ver ≤ 1) where
  fits-columns : (luma : Bool) (u k v : ℕ) → u < w4 → k < classes luma → v < h4 → bits_of luma ss-hor ss-ver 0 (bx4 + u) k (by4 + v) / 16 < length ms
  fits-columns luma =
      let h = halves ss-hor sh in
      fits luma (half_units ss-ver) line.columns bx4 by4 w4 h4 (length ms) (halves ss-ver sv).1 (omega (arith, r.width.1)) r.height.1 r.record-words

  fits-rows : (luma : Bool) (u k v : ℕ) → u < h4 → k < classes luma → v < w4 → bits_of luma ss-hor ss-ver 1 (by4 + u) k (bx4 + v) / 16 < length ms
  fits-rows luma =
      let h = halves ss-ver sv in
      fits luma (half_units ss-hor) line.rows by4 bx4 h4 w4 (length ms) (halves ss-hor sh).1 (omega (arith, r.height.1)) r.width.1 r.record-words

  module _ (luma : Bool) (class : ℕ → ℕ) (low : (n : ℕ) → class n < classes luma) (skip : Bool) (t : ℕ) (c : t < 19) where
    unfoldable pub B : Block
    B = block_of class (not skip) (λ _ _. t) by4 bx4 w4 h4 a l

    pub one-recorded : Recorded B (bits_of luma ss-hor ss-ver) ms
        (grid_masks (columns_of luma (half_units ss-ver) by4 bx4 w4 h4) (rows_of luma (half_units ss-hor) by4 bx4 w4 h4) class t skip a l ms)
    unfolding grid_masks B
    one-recorded =
        let w = tx-rule t c in
        recorded B (bits_of luma ss-hor ss-ver) ms _ _
        (adds-grid (columns B) (bits_of luma ss-hor ss-ver 0) (length ms) (classes luma) low r.width.0 (fits-columns luma) (Tx_Wide t) (λ _ _. refl)
        w.width.low skip refl)
        (adds-grid (rows B) (bits_of luma ss-hor ss-ver 1) (length ms) (classes luma) low r.height.0 (fits-rows luma) (Tx_High t) (λ _ _. refl)
        w.height.low skip refl)

    one-contexts : Contexts B (stores w4 (λ _. class (Tx_High t)) a) (stores h4 (λ _. class (Tx_Wide t)) l)
    unfolding B
    one-contexts =
        record {
          above-is = taken (rows B) (λ _. class (Tx_High t)) a r.above-units (λ v _. refl) (λ v. refl);
          left_is = taken (columns B) (λ _. class (Tx_Wide t)) l r.left-units (λ v _. refl) (λ v. refl);
        }

module _ (by4 bx4 w4 h4 : ℕ) (skip : Bool) (t : ℕ) (tx-masks a l ms : List ℕ) (r : Room by4 bx4 w4 h4 0 0 (length ms) (length a) (length l))
    (c : Covers t w4 h4) where
  unfoldable pub I : Block
  I = inter_block by4 bx4 w4 h4 skip t tx-masks a l

  across : Reads (tables tx-masks t w4 h4) line.columns (columns I)
  unfolding I
  across = tables-columns by4 bx4 w4 h4 t skip tx-masks a l c

  down : Reads (tables tx-masks t w4 h4) line.rows (rows I)
  unfolding I
  down = tables-rows by4 bx4 w4 h4 t skip tx-masks a l c

  pub inter-recorded : Recorded I (bits_of true 0 0) ms (inter_masks by4 bx4 w4 h4 skip t tx-masks a l ms)
  unfolding cell_masks I
  inter-recorded =
      recorded I (bits_of true 0 0) ms _ _
      (adds-cells (columns I) (bits_of true 0 0 0) (length ms) 3 luma-low r.width.0
      (fits-columns by4 bx4 w4 h4 0 0 a l ms r (omega arith) (omega arith) true) _ _
      across.tiles across.class across.step skip refl)
      (adds-cells (rows I) (bits_of true 0 0 1) (length ms) 3 luma-low r.height.0
      (fits-rows by4 bx4 w4 h4 0 0 a l ms r (omega arith) (omega arith) true) _ _
      down.tiles down.class down.step skip refl)

  inter-contexts : Contexts I (stores w4 (last_row tx-masks t w4 h4) a) (stores h4 (last_column tx-masks t w4 h4) l)
  unfolding I
  inter-contexts =
      record {
        above-is = taken (rows I) (last_row tx-masks t w4 h4) a r.above-units (λ v q. down.class (h4 - 1) v (omega (arith, r.height.0)) q) (λ v. refl);
        left_is = taken (columns I) (last_column tx-masks t w4 h4) l r.left-units (λ v q. across.class (w4 - 1) v (omega (arith, r.width.0)) q)
            (λ v. refl);
      }

-- the same bits by their names in document 01
luma-bits : (B : Block) (ms ms' : List ℕ) → Recorded B (bits_of true 0 0) ms ms' → Recorded B luma_bit ms ms'
unfolding edge_bit luma_bit
luma-bits B ms ms' R = record { long = R.long; bits = R.bits }

chroma-bits : (ss-hor ss-ver : ℕ) (B : Block) (ms ms' : List ℕ) → Recorded B (bits_of false ss-hor ss-ver) ms ms' → Recorded B (chroma_bits ss-hor ss-ver) ms ms'
unfolding edge_bit chroma_bit
chroma-bits ss-hor ss-ver B ms ms' R = record { long = R.long; bits = R.bits }

pub promises : Promises
unfolding B I
promises =
    record {
      intra = λ by4 bx4 w4 h4 t a l ms r c. (
        luma-bits _ _ _ (one-recorded by4 bx4 w4 h4 0 0 a l ms r (omega arith) (omega arith) true luma_class luma-low false t c),
        one-contexts by4 bx4 w4 h4 0 0 a l ms r (omega arith) (omega arith) true luma_class luma-low false t c,
      );
      inter = λ by4 bx4 w4 h4 skip t tx-masks a l ms r c.
          (luma-bits _ _ _ (inter-recorded by4 bx4 w4 h4 skip t tx-masks a l ms r c), inter-contexts by4 bx4 w4 h4 skip t tx-masks a l ms r c);
      chroma = λ by4 bx4 w4 h4 skip t ss-hor ss-ver a l ms r c sh sv. (
        chroma-bits ss-hor ss-ver _ _ _ (one-recorded by4 bx4 w4 h4 ss-hor ss-ver a l ms r sh sv false chroma_class chroma-low skip t c),
        one-contexts by4 bx4 w4 h4 ss-hor ss-ver a l ms r sh sv false chroma_class chroma-low skip t c,
      );
    }
