-- `number` meets its contract: the invariant says that the first i bits are taken.
use mathlib.Core.Path.{◌≡◌}
use Prim.Native.Nat.{◌+◌}
use Rattle.bit_place.specs.Place.{bit_at, number_at}
use Rattle.bit_place.proofs.number.Given as goal

abbrev pub invariant-loop-i : goal.invariant-loop-i
invariant-loop-i l = l.v ≡ number_at (bit_at l.bytes) (l.at + l.k) l.i
