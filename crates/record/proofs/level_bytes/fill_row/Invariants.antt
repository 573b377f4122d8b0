-- A row of units by its invariant: the bytes of the units passed.
use lib.ListN.{length}
use mathlib.Core.Path.{◌≡◌}
use Prim.Native.Nat.{◌-◌, ◌≤◌}
use Rattle.record.specs.Record.{fill_row}
use Rattle.record.proofs.level_bytes.fill_row.Given as goal

abbrev pub invariant-loop-i : goal.invariant-loop-i
invariant-loop-i l = (l.i ≤ l.w) × (length l.row ≡ length l.initial.row) × (l.row ≡ fill_row 0 l.i l.u l.v l.initial.row)

abbrev pub decreases-loop-i : goal.decreases-loop-i
decreases-loop-i l = l.w - l.i
