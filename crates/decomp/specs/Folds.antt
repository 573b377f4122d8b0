-- How `decomp_tx` fills the tables, in the order of the code.
--   value p w h                 what a transform of w by h units has in table p
--   wide_in p w, high_in p h    how much of it is written there: of a step across the first column, of a step down the first row
--   run at n v                  n cells from `at` on are v
--   fill at w h v               h rows of w cells
--   put y0 x0 w h               a transform of w by h units at row y0 and column x0
--   whole t y x                 one of size t, at row y and column x of those of its size
--   grid n k g                  g y x for n columns and k rows
--   splits m t y x              the mask m of its depth splits it: a square goes to four, an oblong to two halves of its long side
--   splits_by ms t y x          so does the first of the masks of its depth and below
--   decomp ms t y x             the transform with all its splits
--   masks_from d ms             the masks of depth d and below
--   counted n side              how many transforms of a side n units have
--   block ms t w4 h4            the transforms of a block, t the maximal one
--   Place t d y x               where a transform at depth d may stand: an oblong is the first across its short side
use Rattle.std.specs.Prelude.{Bool, false, cond, not, ◌&&◌, ◌≡◌, List, [], ◌∷◌, ℕ, zero, suc, ◌+◌, ◌-◌, ◌*◌, ◌/◌, ◌≤◌, ◌<◌, eqb, ltb, get_or, set}
use Rattle.loops.specs.Run.{up_to}
use Rattle.bits.specs.Bit.{has_bit}
use Rattle.standard.specs.Sizes.{Tx_Wide, Tx_High, Split_Tx_Size}
use Rattle.units.specs.Sizes.{luma_class}
use Rattle.decomp.specs.Cells.{cell}

abbrev pub value : ℕ → ℕ → ℕ → ℕ
value zero w h = luma_class w
value (suc zero) w h = w
value (suc (suc zero)) w h = luma_class h
value (suc (suc (suc p))) w h = h

abbrev pub wide_in : ℕ → ℕ → ℕ
wide_in p w = cond (eqb p 1) 1 w

abbrev pub high_in : ℕ → ℕ → ℕ
high_in p h = cond (eqb p 3) 1 h

unfoldable pub run : ℕ → ℕ → ℕ → List ℕ → List ℕ
run at n v = up_to (λ i a. set a (at + i) v) n

unfoldable pub fill : ℕ → ℕ → ℕ → ℕ → List ℕ → List ℕ
fill at w h v = up_to (λ y. run (at + 32 * y) w v) h

unfoldable pub put : ℕ → ℕ → ℕ → ℕ → List ℕ → List ℕ
put y0 x0 w h = up_to (λ p. fill (cell p y0 x0) (wide_in p w) (high_in p h) (value p w h)) 4

abbrev pub whole : ℕ → ℕ → ℕ → List ℕ → List ℕ
whole t y x = put (y * Tx_High t) (x * Tx_Wide t) (Tx_Wide t) (Tx_High t)

abbrev pub grid : ℕ → ℕ → (ℕ → ℕ → List ℕ → List ℕ) → List ℕ → List ℕ
grid n k g = up_to (λ y. up_to (g y) n) k

unfoldable pub splits : ℕ → ℕ → ℕ → ℕ → Bool
splits m t y x = not (eqb t 0) && has_bit m (y * 4 + x)

unfoldable pub splits_by : List ℕ → ℕ → ℕ → ℕ → Bool
splits_by [] t y x = false
splits_by (m ∷ ms) t y x = splits m t y x

unfoldable pub decomp : List ℕ → ℕ → ℕ → ℕ → List ℕ → List ℕ
decomp [] t y x = whole t y x
decomp (m ∷ ms) t y x =
    cond (splits m t y x)
    (grid (cond (ltb (Tx_Wide t) (Tx_High t)) 1 2) (cond (ltb (Tx_High t) (Tx_Wide t)) 1 2)
    (λ i j. decomp ms (Split_Tx_Size t) (y * 2 + i) (x * 2 + j)))
    (whole t y x)

unfoldable pub masks_from : ℕ → List ℕ → List ℕ
masks_from zero ms = get_or ms 0 0 ∷ get_or ms 1 0 ∷ []
masks_from (suc zero) ms = get_or ms 1 0 ∷ []
masks_from (suc (suc d)) ms = []

abbrev pub counted : ℕ → ℕ → ℕ
counted n side = (n - 1) / side + 1

unfoldable pub block : List ℕ → ℕ → ℕ → ℕ → List ℕ → List ℕ
block ms t w4 h4 = grid (counted w4 (Tx_Wide t)) (counted h4 (Tx_High t)) (decomp (masks_from 0 ms) t)

pub record Place (t d y x : ℕ) : Type 0 where
  pub code : t < 19
  pub deep : d ≤ 2
  pub row : y < 32
  pub column : x < 32
  pub height : y * Tx_High t + Tx_High t ≤ 32
  pub width : x * Tx_Wide t + Tx_Wide t ≤ 32
  pub flat : Tx_High t < Tx_Wide t → y ≡ 0
  pub tall : Tx_Wide t < Tx_High t → x ≡ 0
  pub near : 0 < t → d < 2 → (y < 2 * (d + 1)) × (x < 2 * (d + 1))
