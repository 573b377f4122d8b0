-- The example's two calls: that they are accepted is computed, and that the masks they leave are words of 16 bits.
use mathlib.Core.Bool.{Bool, true, ◌&&◌, and-eq-true_iff}
use mathlib.Core.List.{List, [], ◌∷◌}
use mathlib.Core.Path.{◌≡◌, refl}
use Prim.Native.Nat.{ℕ, zero, suc, ◌^◌}
use native.Mathlib.Omega.{arith}
use lib.Dec.{ltb}
use lib.ListN.{replicate}
use borrow.Author.Tests.{ltb-true}
use Rattle.loops.specs.Any.{any_below}
use Rattle.standard.specs.Sizes.{Num_4x4_Blocks_Wide, Num_4x4_Blocks_High, Tx_Wide, Tx_High}
use Rattle.units.specs.Sizes.{log2}
use Rattle.units.specs.Memory.{level_at}
use Rattle.bits.specs.Mark.{mark, marks, Words}
use Rattle.mask_edges.specs.Folds.{stores, grid_masks, grid_pass, block_edge, step_edges, edge_bit}
use Rattle.block.specs.Block.{bw4, bh4, cbw4, cbh4, Lent}
use Rattle.block.specs.Tests.{number}
use Rattle.record.specs.Record.{fill_levels, fill_row, in_record}
use Rattle.frames.specs.Calls.{Frame}
use Rattle.drawn.specs.Calls.{Records}
use Rattle.tiles.proofs.ComputedCalls.{next, records}
use Rattle.kept.specs.Example.{call, clear, head}

abbrev pub between : Lent
between = next 4 (call 0 0) clear

abbrev pub after : Lent
after = next 4 (call 2 1) between

pub first : Records 4 (call 0 0) clear between
unfolding number any_below Num_4x4_Blocks_Wide Num_4x4_Blocks_High Tx_Wide Tx_High bw4 bh4 cbw4 cbh4
first = records 4 (call 0 0) clear refl

pub second : Records 4 (call 2 1) between after
unfolding number any_below Num_4x4_Blocks_Wide Num_4x4_Blocks_High Tx_Wide Tx_High bw4 bh4 cbw4 cbh4 fill_levels fill_row in_record grid_masks grid_pass block_edge step_edges
    marks mark stores log2 level_at edge_bit
second = records 4 (call 2 1) between refl

-- ---- the masks are words of 16 bits

abbrev small : List ℕ → Bool
small [] = true
small (w ∷ l) = ltb w (2 ^ 16) && small l

all_words : (l : List ℕ) → small l ≡ true → Words l
unfolding Words
all_words [] e i = omega arith
all_words (w ∷ l) e zero = ltb-true w (2 ^ 16) ((and-eq-true_iff (ltb w (2 ^ 16)) (small l)).0 e).0
all_words (w ∷ l) e (suc i) = all_words l ((and-eq-true_iff (ltb w (2 ^ 16)) (small l)).0 e).1 i

pub words : Words after.masks
unfolding Num_4x4_Blocks_Wide Num_4x4_Blocks_High Tx_Wide Tx_High bw4 bh4 cbw4 cbh4 in_record grid_masks grid_pass block_edge step_edges marks mark stores log2 edge_bit
words = all_words after.masks refl

abbrev pub frame : Frame
frame = record { head = head; limits = record { e = replicate 64 20; i = replicate 64 10 }; levels = after.levels; masks = after.masks; words = words }
