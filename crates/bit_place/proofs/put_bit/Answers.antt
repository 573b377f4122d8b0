-- `put_bit` meets its contract: a place's byte and bit are found without a sum that wraps.
use mathlib.Core.Path.{◌≡◌, refl}
use Prim.Native.Nat.{◌+◌, ◌/◌, ◌%◌}
use native.Mathlib.Omega.{arith}
use Rattle.bit_place.specs.Place.{put_bit}
use Rattle.bit_place.proofs.put_bit.Goals as goal

pub returns : goal.returns
unfolding put_bit
returns c =
    let a = c.args in
    let e : (a.at + a.k) / 8 ≡ a.at / 8 + (a.at % 8 + a.k) / 8 = omega arith in
    let m : (a.at + a.k) % 8 ≡ (a.at % 8 + a.k) % 8 = omega arith in
    rw (e, m, c.with_bit.ensures) refl
