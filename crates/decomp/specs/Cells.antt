-- What the tables of an inter block tell.
--   cell p y x          the place of a cell of the four tables of 32 by 32: 0 the class across, 1 the step across, 2 the class down, 3 the step down
--   Covers t w4 h4      a block of which w4 by h4 units are seen may have the maximal transform t: 4x4, or up to two of t each way, one across the
--                       short side of an oblong
--   Cells tx w4 h4 a    the tables a tell the transforms tx: at each unit their classes, at the start of each its sides
use Rattle.std.specs.Prelude.{◌≡◌, List, ℕ, ◌+◌, ◌*◌, ◌%◌, ◌≤◌, ◌<◌, length, get_or}
use Rattle.standard.specs.Sizes.{Tx_Wide, Tx_High}
use Rattle.units.specs.Sizes.{luma_class}

abbrev pub cell : ℕ → ℕ → ℕ → ℕ
cell p y x = (p * 32 + y) * 32 + x

pub record Covers (t w4 h4 : ℕ) : Type 0 where
  pub code : t < 19
  pub width : (0 < w4) × (w4 ≤ 32)
  pub height : (0 < h4) × (h4 ≤ 32)
  pub two : 0 < t → (w4 ≤ 2 * Tx_Wide t) × (h4 ≤ 2 * Tx_High t)
  pub flat : Tx_High t < Tx_Wide t → h4 ≤ Tx_High t
  pub tall : Tx_Wide t < Tx_High t → w4 ≤ Tx_Wide t

pub record Cells (tx : ℕ → ℕ → ℕ) (w4 h4 : ℕ) (a : List ℕ) : Type 0 where
  pub long : length a ≡ 4096
  pub class-across : (x y : ℕ) → x < w4 → y < h4 → get_or a (cell 0 y x) 0 ≡ luma_class (Tx_Wide (tx x y))
  pub step-across : (x y : ℕ) → x < w4 → y < h4 → x % Tx_Wide (tx x y) ≡ 0 → get_or a (cell 1 y x) 0 ≡ Tx_Wide (tx x y)
  pub class-down : (x y : ℕ) → x < w4 → y < h4 → get_or a (cell 2 y x) 0 ≡ luma_class (Tx_High (tx x y))
  pub step_down : (x y : ℕ) → x < w4 → y < h4 → y % Tx_High (tx x y) ≡ 0 → get_or a (cell 3 y x) 0 ≡ Tx_High (tx x y)
