-- `bit` meets its contract: a place's byte and bit are found without a sum that wraps, and past the end all is 0.
use mathlib.Core.Path.{◌≡◌, refl}
use Prim.Native.Nat.{◌+◌, ◌-◌, ◌/◌, ◌%◌}
use native.Mathlib.Omega.{arith}
use lib.ListN.{get_or-eq_default}
use Rattle.bits.proofs.Bits.{has_bit-nil}
use Rattle.bit_place.specs.Place.{bit_at}
use Rattle.bit_place.proofs.bit.Goals as goal

pub returns-then-i-bytes : goal.returns-then-i-bytes
unfolding bit_at
returns-then-i-bytes c =
    let a = c.args in
    let e : (a.at + a.k) / 8 ≡ a.at / 8 + (a.at % 8 + a.k) / 8 = omega arith in
    let none = get_or-eq_default a.bytes.now 0 c.if-i-bytes.true in
    (rw (e, none, has_bit-nil (7 - (a.at + a.k) % 8)) refl, omega arith)

pub returns : goal.returns
unfolding bit_at
returns c =
    let a = c.args in
    let e : (a.at + a.k) / 8 ≡ a.at / 8 + (a.at % 8 + a.k) / 8 = omega arith in
    let m : (a.at + a.k) % 8 ≡ (a.at % 8 + a.k) % 8 = omega arith in
    (rw (e, m) c.bit_of.ensures.0, c.bit_of.ensures.1)
