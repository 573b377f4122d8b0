-- The rules behind the sizes, at each code of the tables, where they compute.
use mathlib.Core.List.{flat_map}
use Prim.Native.Nat.{ℕ, ◌<◌}
use native.Mathlib.Omega.{arith}
use Rattle.loops.proofs.Tables.{each_at}
use Rattle.standard.specs.Sizes.{Num_4x4_Blocks_Wide, Num_4x4_Blocks_High, Tx_Wide, Tx_High, Split_Tx_Size, Max_Tx_Size_Rect}
use Rattle.units.specs.Sizes.{log2, block_order, tx_order, BlockRule, TxRule}

pub block-rule : (b : ℕ) → b < 22 → BlockRule b
unfolding Num_4x4_Blocks_Wide Num_4x4_Blocks_High Tx_Wide Tx_High Max_Tx_Size_Rect log2 block_order flat_map
block-rule = each_at 22 BlockRule (search arith)

pub tx-rule : (t : ℕ) → t < 19 → TxRule t
unfolding Tx_Wide Tx_High Split_Tx_Size log2 tx_order flat_map
tx-rule = each_at 19 TxRule (search arith)
