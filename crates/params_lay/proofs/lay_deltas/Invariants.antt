-- `lay_deltas` meets its contract: the invariant says that those before are laid.
use mathlib.Core.Path.{◌≡◌}
use Prim.Native.Nat.{◌+◌, ◌*◌, ◌≤◌}
use lib.ListN.{length, take, drop}
use Rattle.bit_place.specs.Place.{laid}
use Rattle.params_lay.specs.Print.{deltas_digits}
use Rattle.params_lay.proofs.lay_deltas.Given as goal

abbrev pub invariant-loop-u : goal.invariant-loop-u
invariant-loop-u l =
    (l.k ≡ l.from + length (deltas_digits l.update l.deltas (length l.yielded)))
    × (l.k ≤ l.from + 8 * length l.yielded)
    × (l.bytes ≡ laid (deltas_digits l.update l.deltas (length l.yielded)) (l.at + l.from) l.initial.bytes)
    × (l.u-iterator.a.rest.now ≡ drop (length l.yielded) (take l.n l.update))
    × (l.u-iterator.b.rest.now ≡ drop (length l.yielded) (take l.n l.deltas))
    × (length l.yielded ≤ l.n)
