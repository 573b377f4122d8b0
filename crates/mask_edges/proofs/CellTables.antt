-- What the tables of an inter block tell each pass: the class of every unit's transform, and at its start its side.
use mathlib.Core.Path.{◌≡◌, refl, ap}
use mathlib.Core.Bool.{Bool, true, false}
use mathlib.Core.List.{List}
use Prim.Native.Nat.{ℕ, ◌%◌, ◌<◌}
use native.Mathlib.Omega.{arith}
use lib.ListN.{length, get_or, replicate, length-replicate}
use Rattle.plane.specs.Line.{Pass, pass_of}
use Rattle.plane.specs.Line as line
use Rattle.standard.specs.Sizes.{Tx_Wide, Tx_High}
use Rattle.units.specs.Sizes.{luma_class}
use Rattle.units.proofs.Rules.{tx-rule}
use Rattle.decomp.specs.Split.{tx_at}
use Rattle.decomp.specs.Cells.{Covers, Cells}
use Rattle.decomp.specs.Folds.{block}
use Rattle.decomp.proofs.UnitTransforms.{tx_at-code, cells}
use Rattle.decomp.proofs.UnitsOfTransform.{tx_at-same}
use Rattle.mask_edges.specs.declared.edge.BlockPass.{BlockPass}
use Rattle.mask_edges.specs.Recording.{Sweep, columns, rows, inter_block}
use Rattle.mask_edges.specs.Folds.{cell_at, pass_over, columns_of, rows_of, zeros, tables, Told}
use Rattle.mask_edges.proofs.TransformsAlong.{Tiles, reached}

pub record Reads (a : List ℕ) (d : Pass) (S : Sweep) : Type 0 where
  pub tables : length a ≡ 4096
  pub class : (u v : ℕ) → u < S.across → v < S.along → get_or a (cell_at d 0 u v) 0 ≡ S.class (S.side u v)
  pub step : (u v : ℕ) → u < S.across → v < S.along → u % S.side u v ≡ 0 → get_or a (cell_at d 1 u v) 0 ≡ S.side u v
  pub tiles : (v : ℕ) → Tiles (λ u. S.side u v)

module _ (by4 bx4 w4 h4 : ℕ) (skip : Bool) (t : ℕ) (ms a l txa : List ℕ) (c : Covers t w4 h4) (T : Cells (tx_at ms t) w4 h4 txa) where
  pub reads-columns : Reads txa line.columns (columns (inter_block by4 bx4 w4 h4 skip t ms a l))
  unfolding cell_at
  reads-columns =
      record {
        tables = T.long;
        class = T.class-across;
        step = T.step-across;
        tiles = λ v.
            record {
              low = λ u. (tx-rule (tx_at ms t u v) (tx_at-code ms t u v c.code)).width.low;
              same = λ u w e. ap Tx_Wide (tx_at-same u v w v ms t c.code (e, refl));
            };
      }

  pub reads-rows : Reads txa line.rows (rows (inter_block by4 bx4 w4 h4 skip t ms a l))
  unfolding cell_at
  reads-rows =
      record {
        tables = T.long;
        class = λ u v p q. T.class-down v u q p;
        step = λ u v p q. T.step_down v u q p;
        tiles = λ v.
            record {
              low = λ u. (tx-rule (tx_at ms t v u) (tx_at-code ms t v u c.code)).height.low;
              same = λ u w e. ap Tx_High (tx_at-same v u v w ms t c.code (refl, e));
            };
      }

-- so its cells are classes, and its steps go on
pub told : (a : List ℕ) (S : Sweep) (half : ℕ) (rowwise : Bool) (unit place : ℕ) → Reads a (pass_of rowwise) S → ((n : ℕ) → S.class n < 3) → 0 < S.across
    → Told a (pass_over true half rowwise unit place S.across S.along)
told a S half rowwise unit place R low l =
    record {
      tables = R.tables;
      class = λ u v p q. rw (R.class u v p q) (low (S.side u v));
      steps = λ u v r p q.
          let s = reached (λ u. S.side u v) (R.tiles v) S.across (λ u. get_or a (cell_at (pass_of rowwise) 1 u v) 0) (λ u h. R.step u v h q) l r p in
          rw (R.step u v p q s) ((R.tiles v).low u);
    }

-- ---- an inter block's tables, at the code's own passes

length-zeros : length zeros ≡ 4096
unfolding zeros
length-zeros = length-replicate {A = ℕ} 4096 0

pub from-zeros : (ms : List ℕ) (t w4 h4 : ℕ) (txa : List ℕ) → txa ≡ block ms t w4 h4 (replicate 4096 0) → txa ≡ tables ms t w4 h4
unfolding zeros
from-zeros ms t w4 h4 txa e = e

pub luma-low : (n : ℕ) → luma_class n < 3
luma-low n = omega arith

module _ (by4 bx4 w4 h4 t : ℕ) (skip : Bool) (ms a l : List ℕ) (c : Covers t w4 h4) where
  pub tables-columns : Reads (tables ms t w4 h4) line.columns (columns (inter_block by4 bx4 w4 h4 skip t ms a l))
  tables-columns = reads-columns by4 bx4 w4 h4 skip t ms a l (tables ms t w4 h4) c (cells ms t w4 h4 c zeros length-zeros)

  pub tables-rows : Reads (tables ms t w4 h4) line.rows (rows (inter_block by4 bx4 w4 h4 skip t ms a l))
  tables-rows = reads-rows by4 bx4 w4 h4 skip t ms a l (tables ms t w4 h4) c (cells ms t w4 h4 c zeros length-zeros)

  module _ (txa : List ℕ) (p : BlockPass) (e : txa ≡ tables ms t w4 h4) where
    pub told-columns : p ≡ columns_of true 16 by4 bx4 w4 h4 → Told txa p
    told-columns ep =
        rw (e, ep) (told (tables ms t w4 h4) (columns (inter_block by4 bx4 w4 h4 skip t ms a l)) 16 false bx4 by4 tables-columns luma-low c.width.0)

    pub told-rows : p ≡ rows_of true 16 by4 bx4 w4 h4 → Told txa p
    told-rows ep = rw (e, ep) (told (tables ms t w4 h4) (rows (inter_block by4 bx4 w4 h4 skip t ms a l)) 16 true by4 bx4 tables-rows luma-low c.height.0)
