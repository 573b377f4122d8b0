-- `read_deltas` meets its contract: the invariant says that the first i are read, and that those behind are as before.
use mathlib.Core.Path.{◌≡◌}
use Prim.Native.Nat.{◌+◌, ◌-◌, ◌*◌, ◌≤◌}
use lib.ListN.{length, take, drop}
use Rattle.standard.specs.Header.{updates}
use Rattle.bit_place.specs.Place.{bit_at}
use Rattle.params_read.specs.Reads.{Reads}
use Rattle.params_read.proofs.read_deltas.Given as goal

abbrev pub invariant-loop-i : goal.invariant-loop-i
invariant-loop-i g l =
    (length l.update ≡ length l.initial.update)
    × (length l.deltas ≡ length l.initial.deltas)
    × (l.from ≤ l.k)
    × (l.k ≤ l.from + 8 * l.i)
    × Reads (updates l.initial.deltas l.i) (take l.i l.update, take l.i l.deltas) (bit_at l.bytes) (l.at + l.from) (l.k - l.from)
    × (drop l.i l.update ≡ drop l.i l.initial.update)
    × (drop l.i l.deltas ≡ drop l.i l.initial.deltas)
