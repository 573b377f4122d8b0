-- `rows` meets its contract: after rec records the answers are those of their lines and halves.
use mathlib.Core.Path.{◌≡◌}
use Prim.Native.Nat.{◌≤◌}
use Rattle.gap.specs.Grid.{grid_of}
use Rattle.gap.proofs.RowPass.{gap_up_to, out_up_to}
use Rattle.gap.proofs.rows.Given as goal

abbrev pub invariant-loop-rec : goal.invariant-loop-rec
invariant-loop-rec l = (l.rec ≤ l.records)
    × (l.found.gap ≡ gap_up_to (grid_of l.g) l.masks l.sb4.0 l.k l.rec) × (l.found.out ≡ out_up_to (grid_of l.g) l.masks l.sb4.0 l.k l.rec)
