-- The rows passed are those of the rectangle.
use mathlib.Core.Path.{◌≡◌}
use Rattle.decomp.specs.Folds.{fill}
use Rattle.decomp.proofs.fill_cells.Given as goal

abbrev pub invariant-loop-y : goal.invariant-loop-y
invariant-loop-y l = l.txa ≡ fill l.at l.w l.y l.v l.initial.txa
