-- `put` meets its contract: the invariant says that laying the digits that are left still gives the whole.
use mathlib.Core.Path.{◌≡◌}
use Prim.Native.Nat.{◌+◌, ◌-◌}
use lib.ListN.{length}
use Rattle.bit_place.specs.Place.{digits, laid}
use Rattle.bit_place.proofs.put.Given as goal

abbrev pub invariant-loop-i : goal.invariant-loop-i
invariant-loop-i l =
    (length l.bytes ≡ length l.initial.bytes) × (laid (digits (l.n - l.i) l.v) (l.at + l.k + l.i) l.bytes ≡ laid (digits l.n l.v) (l.at + l.k) l.initial.bytes)
