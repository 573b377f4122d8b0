-- The transform that a unit of an inter block lies in, 5.11.17, as tx_masks tell it (01, "Recording").
--   is_split m t x y     a transform of size t at the unit (x, y) is split: it is not 4x4, and m, the mask of its depth, has its bit.
--                       The bit counts the block's transforms of that size, 4 to a row
--   leaf ms t x y        what a transform of size t comes to at (x, y); ms are the masks of its depth and of those below
--   tx_at ms t x y       t is the block's maximal transform, ms are its two masks: nothing is split at depth 2
-- Places are in units from the block's corner.
use Rattle.std.specs.Prelude.{Bool, cond, not, ◌&&◌, List, [], ◌∷◌, ℕ, ◌+◌, ◌*◌, ◌/◌, eqb, get_or}
use Rattle.bits.specs.Bit.{has_bit}
use Rattle.standard.specs.Sizes.{Tx_Wide, Tx_High, Split_Tx_Size}

unfoldable pub is_split : ℕ → ℕ → ℕ → ℕ → Bool
is_split m t x y = not (eqb t 0) && has_bit m (y / Tx_High t * 4 + x / Tx_Wide t)

abbrev pub leaf : List ℕ → ℕ → ℕ → ℕ → ℕ
leaf [] t x y = t
leaf (m ∷ ms) t x y = cond (is_split m t x y) (leaf ms (Split_Tx_Size t) x y) t

unfoldable pub tx_at : List ℕ → ℕ → ℕ → ℕ → ℕ
tx_at ms = leaf (get_or ms 0 0 ∷ get_or ms 1 0 ∷ [])
