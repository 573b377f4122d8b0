-- `delta_bits` meets its contract: the invariant says that the bits of the first i are counted.
use mathlib.Core.List.{List}
use mathlib.Core.Path.{◌≡◌}
use Prim.Native.Nat.{◌*◌, ◌≤◌}
use lib.IntN.{ℤ}
use lib.ListN.{length}
use Rattle.params_lay.specs.Print.{deltas_digits}
use Rattle.params_lay.proofs.delta_bits.Given as goal

abbrev pub invariant-loop-u : goal.invariant-loop-u
invariant-loop-u l =
    (l.k ≤ 8 * l.u-index) × ((ds : List ℤ) → l.k ≡ length (deltas_digits l.update ds l.u-index))
