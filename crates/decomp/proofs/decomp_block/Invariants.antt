-- The rows passed are done, each as wide as the width counts.
use mathlib.Core.Path.{◌≡◌}
use Rattle.decomp.specs.Folds.{decomp, masks_from, grid}
use Rattle.decomp.proofs.decomp_block.Given as goal

abbrev pub invariant-loop-y_off : goal.invariant-loop-y_off
invariant-loop-y_off l = l.txa ≡ grid l.columns l.y_off (decomp (masks_from 0 l.tx_masks) l.max_tx) l.initial.txa
