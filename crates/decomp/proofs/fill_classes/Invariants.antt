-- The rows passed are those of both rectangles.
use mathlib.Core.Path.{◌≡◌}
use Prim.Native.Nat.{◌+◌}
use Rattle.decomp.specs.Folds.{fill}
use Rattle.decomp.proofs.fill_classes.Given as goal

abbrev pub invariant-loop-y : goal.invariant-loop-y
invariant-loop-y l = l.txa ≡ fill (2048 + l.at) l.w l.y l.v (fill l.at l.w l.y l.u l.initial.txa)
