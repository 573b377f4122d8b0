-- The class of a transform's side, and the rules behind the standard's sizes. Sides are in units.
--   log2 n                      the greatest k with 2 ^ k ≤ n, for n from 1 to 63
--   luma_class n                log2, at most 2
--   chroma_class n              1 if above one unit
--   Side n most                 a power of two, from 1 to most
--   Ratio w h                   neither is more than four times the other
--   block_order, tx_order       the sizes (w, h) in the order of their codes
--   BlockRule b                 of the block code b: its sides, its place in the order, its largest transform
--   SplitRule t                 the transform that t splits into
--   TxRule t                    of the transform code t: its sides, its place in the order, its split
use Rattle.std.specs.Prelude.{cond, ◌≡◌, ℕ, ◌*◌, ◌/◌, ◌^◌, ◌<◌, ◌≤◌, min, ltb, get_or}
use mathlib.Core.List.{List, [], ◌∷◌, ◌++◌, flat_map}
use Rattle.standard.specs.Sizes.{Num_4x4_Blocks_Wide, Num_4x4_Blocks_High, Tx_Wide, Tx_High, Split_Tx_Size, Max_Tx_Size_Rect}

unfoldable pub log2 : ℕ → ℕ
log2 n =
    cond (ltb n 2) 0 (cond (ltb n 4) 1 (cond (ltb n 8) 2 (cond (ltb n 16) 3 (cond (ltb n 32) 4 5))))

abbrev pub luma_class : ℕ → ℕ
luma_class n = min 2 (log2 n)

abbrev pub chroma_class : ℕ → ℕ
chroma_class n = cond (ltb 1 n) 1 0

pub record Side (n most : ℕ) : Type 0 where
  pub power : 2 ^ log2 n ≡ n
  pub low : 1 ≤ n
  pub at_most : n ≤ most

pub record Ratio (w h : ℕ) : Type 0 where
  pub flat : w ≤ 4 * h
  pub tall : h ≤ 4 * w

abbrev square : ℕ → List (ℕ × ℕ)
square n = (n, n) ∷ []

abbrev oblongs : ℕ → ℕ → List (ℕ × ℕ)
oblongs k n = (n / k, n) ∷ (n, n / k) ∷ []

-- 1 to 2 and square for each side; then 1 to 4
unfoldable pub block_order : List (ℕ × ℕ)
block_order =
    square 1 ++ flat_map (λ n. oblongs 2 n ++ square n) (2 ∷ 4 ∷ 8 ∷ 16 ∷ 32 ∷ []) ++ flat_map (oblongs 4) (4 ∷ 8 ∷ 16 ∷ [])

-- squares; then 1 to 2; then 1 to 4
unfoldable pub tx_order : List (ℕ × ℕ)
tx_order =
    flat_map square (1 ∷ 2 ∷ 4 ∷ 8 ∷ 16 ∷ []) ++ flat_map (oblongs 2) (2 ∷ 4 ∷ 8 ∷ 16 ∷ []) ++ flat_map (oblongs 4) (4 ∷ 8 ∷ 16 ∷ [])

pub record BlockRule (b : ℕ) : Type 0 where
  pub width : Side (Num_4x4_Blocks_Wide b) 32
  pub height : Side (Num_4x4_Blocks_High b) 32
  pub ratio : Ratio (Num_4x4_Blocks_Wide b) (Num_4x4_Blocks_High b)
  pub order : get_or block_order b (0, 0) ≡ (Num_4x4_Blocks_Wide b, Num_4x4_Blocks_High b)
  pub tx : Max_Tx_Size_Rect b < 19
  pub tx-wide : Tx_Wide (Max_Tx_Size_Rect b) ≡ min 16 (Num_4x4_Blocks_Wide b)
  pub tx-high : Tx_High (Max_Tx_Size_Rect b) ≡ min 16 (Num_4x4_Blocks_High b)

-- the transform that t splits into: a square's sides are halved, and so is the longer side of an oblong, whose parts never lie the other way; 4x4 stays
pub record SplitRule (t : ℕ) : Type 0 where
  pub code : Split_Tx_Size t < 19
  pub width : Tx_High t ≤ Tx_Wide t → 0 < t → 2 * Tx_Wide (Split_Tx_Size t) ≡ Tx_Wide t
  pub height : Tx_Wide t ≤ Tx_High t → 0 < t → 2 * Tx_High (Split_Tx_Size t) ≡ Tx_High t
  pub wide-stays : Tx_Wide t < Tx_High t → Tx_Wide (Split_Tx_Size t) ≡ Tx_Wide t
  pub high-stays : Tx_High t < Tx_Wide t → Tx_High (Split_Tx_Size t) ≡ Tx_High t
  pub flat : Tx_High (Split_Tx_Size t) < Tx_Wide (Split_Tx_Size t) → Tx_High t < Tx_Wide t
  pub tall : Tx_Wide (Split_Tx_Size t) < Tx_High (Split_Tx_Size t) → Tx_Wide t < Tx_High t
  pub least : t ≡ 0 → Split_Tx_Size t ≡ 0

pub record TxRule (t : ℕ) : Type 0 where
  pub width : Side (Tx_Wide t) 16
  pub height : Side (Tx_High t) 16
  pub ratio : Ratio (Tx_Wide t) (Tx_High t)
  pub order : get_or tx_order t (0, 0) ≡ (Tx_Wide t, Tx_High t)
  pub split : SplitRule t
