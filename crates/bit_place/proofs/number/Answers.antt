-- `number` meets its contract: the invariant says that the first i bits are taken.
use mathlib.Core.Path.{◌≡◌, refl, sym, ap, ◌∙◌}
use Prim.Native.Nat.{◌+◌}
use native.Mathlib.Omega.{arith}
use native.Mathlib.Numerals.{add-one}
use Rattle.bit_place.proofs.Places.{number-none, number_more, number_small, number-low}
use Rattle.bit_place.specs.Place.{bit_at, number_at}
use Rattle.bit_place.proofs.number.Goals as goal

pub loop-i-init : goal.loop-i-init
loop-i-init c = sym (number-none _ _)

pub overflow_mul-v : goal.overflow_mul-v
overflow_mul-v c =
    let l = c.loop-i in
    let a = c.args in
    let h = number-low (bit_at a.bytes.now) (a.at + a.k) l.i (omega arith) in
    record { fits = omega (arith, l.invariant, h) }

pub overflow_add-v : goal.overflow_add-v
overflow_add-v c =
    let l = c.loop-i in
    let a = c.args in
    let h = number-low (bit_at a.bytes.now) (a.at + a.k) l.i (omega arith) in
    record { fits = omega (arith, l.invariant, h) }

pub loop-i-preserved : goal.loop-i-preserved
loop-i-preserved c =
    let l = c.loop-i in
    let a = c.args in
    let e : a.at + a.k + l.i ≡ a.at + (a.k + l.i) = omega arith in
    rw (add-one l.i, number_more (bit_at a.bytes.now) (a.at + a.k) l.i, e, ← l.invariant, ← c.bit.ensures.0) refl

pub returns : goal.returns
returns c =
    let l = c.loop-i in
    let a = c.args in
    let e : l.i ≡ a.n = omega arith in
    let v = l.invariant ∙ ap (number_at (bit_at a.bytes.now) (a.at + a.k)) e in
    (v, rw v (number_small _ _ _))
