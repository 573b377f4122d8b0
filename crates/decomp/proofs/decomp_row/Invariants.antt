-- The columns passed are done.
use Rattle.decomp.specs.Folds.{decomp, masks_from}
use Rattle.loops.specs.Run.{up_to}
use mathlib.Core.Path.{◌≡◌}
use Rattle.decomp.proofs.decomp_row.Given as goal

abbrev pub invariant-loop-x_off : goal.invariant-loop-x_off
invariant-loop-x_off l = l.txa ≡ up_to (decomp (masks_from 0 l.tx_masks) l.max_tx l.y_off) l.x_off l.initial.txa
