-- What is promised of the tables.
use Rattle.std.specs.Prelude.{ℕ, ◌/◌, ◌<◌, ◌≡◌, List, length}
use Rattle.standard.specs.Sizes.{Tx_Wide, Tx_High}
use Rattle.decomp.specs.Split.{tx_at}
use Rattle.decomp.specs.Cells.{Covers, Cells}
use Rattle.decomp.specs.Folds.{block}

pub record Promises : Type 0 where
  -- they tell the transforms that tx_masks make of the maximal one
  pub told : (tx-masks : List ℕ) (t w4 h4 : ℕ) → Covers t w4 h4 → (a : List ℕ) → length a ≡ 4096
      → Cells (tx_at tx-masks t) w4 h4 (block tx-masks t w4 h4 a)
  -- and the units of one transform all have it
  pub one : (tx-masks : List ℕ) (t x y x' y' : ℕ) → t < 19 → x / Tx_Wide (tx_at tx-masks t x y) ≡ x' / Tx_Wide (tx_at tx-masks t x y)
      → y / Tx_High (tx_at tx-masks t x y) ≡ y' / Tx_High (tx_at tx-masks t x y) → tx_at tx-masks t x' y' ≡ tx_at tx-masks t x y
