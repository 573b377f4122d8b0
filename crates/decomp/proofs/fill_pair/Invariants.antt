-- The cells passed are those of both runs.
use mathlib.Core.Path.{◌≡◌}
use Prim.Native.Nat.{◌+◌}
use Rattle.decomp.specs.Folds.{run}
use Rattle.decomp.proofs.fill_pair.Given as goal

abbrev pub invariant-loop-i : goal.invariant-loop-i
invariant-loop-i l = l.txa ≡ run (2048 + l.at) l.i l.v (run l.at l.i l.u l.initial.txa)
