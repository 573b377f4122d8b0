-- The example's calls: that they are accepted is computed.
use mathlib.Core.List.{List, [], ◌∷◌}
use mathlib.Core.Path.{refl}
use Prim.Native.Nat.{ℕ}
use Rattle.loops.specs.Any.{any_below}
use Rattle.standard.specs.Sizes.{Num_4x4_Blocks_Wide, Num_4x4_Blocks_High, Tx_Wide, Tx_High}
use Rattle.units.specs.Sizes.{log2}
use Rattle.units.specs.Memory.{level_at}
use Rattle.bits.specs.Mark.{mark, marks}
use Rattle.mask_edges.specs.Folds.{stores, grid_masks, grid_pass, block_edge, step_edges, edge_bit}
use Rattle.block.specs.Block.{bw4, bh4, cbw4, cbh4, Lent}
use Rattle.block.specs.Tests.{number}
use Rattle.record.specs.Record.{fill_levels, fill_row, in_record}
use Rattle.correct.specs.Correct as correct
use Rattle.correct.specs.Tests as fixes
use Rattle.drawn.specs.Calls.{Records}
use Rattle.tiles.specs.Tiles.{Corrected, done, fix}
use Rattle.tiles.specs.Example.{call, fresh, clear, fix_of}
use Rattle.tiles.proofs.ComputedCalls.{next, records}

abbrev pub between : Lent
between = next 20 (call 0 1 0) clear

abbrev pub after : Lent
after = next 20 (call 16 4 3) (fresh between)

abbrev pub masks : List ℕ
masks = correct.done (fix_of between).start (fix_of between).context (fix_of between).context-uv after.masks

pub first : Records 20 (call 0 1 0) clear between
unfolding number any_below Num_4x4_Blocks_Wide Num_4x4_Blocks_High Tx_Wide Tx_High bw4 bh4 cbw4 cbh4
first = records 20 (call 0 1 0) clear refl

pub second : Records 20 (call 16 4 3) (fresh between) after
unfolding number any_below Num_4x4_Blocks_Wide Num_4x4_Blocks_High Tx_Wide Tx_High bw4 bh4 cbw4 cbh4 fill_levels fill_row in_record grid_masks grid_pass block_edge step_edges
    marks mark stores log2 level_at edge_bit
second = records 20 (call 16 4 3) (fresh between) refl

pub fixed : Corrected (fix_of between ∷ []) after.masks masks
unfolding fixes.number any_below Num_4x4_Blocks_Wide Num_4x4_Blocks_High Tx_Wide Tx_High bw4 bh4 cbw4 cbh4 in_record grid_masks grid_pass block_edge step_edges marks mark stores log2 edge_bit
fixed = fix _ _ _ _ _ (record { code = refl; masks = refl }) (done _)
