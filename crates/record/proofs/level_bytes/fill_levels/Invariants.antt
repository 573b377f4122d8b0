-- Lines of units by its invariant: the rows passed, each filled in its own part.
use lib.ListN.{length}
use mathlib.Core.Path.{◌≡◌}
use Prim.Native.Nat.{◌-◌, ◌≤◌}
use Rattle.record.specs.Record.{fill_levels}
use Rattle.record.proofs.level_bytes.fill_levels.Given as goal

abbrev pub invariant-loop-j : goal.invariant-loop-j
invariant-loop-j l = (l.j ≤ l.h) × (length l.levels ≡ length l.initial.levels) × (l.levels ≡ fill_levels l.at l.level_stride l.w l.j l.u l.v l.initial.levels)

abbrev pub decreases-loop-j : goal.decreases-loop-j
decreases-loop-j l = l.h - l.j
