-- `with_bit` meets its contract, by the machine's or with a bit, and and without it.
use mathlib.Core.Path.{refl}
use native.Mathlib.Omega.{arith}
use Rattle.bits.proofs.Bits.{one_shl}
use Rattle.bit_place.specs.Place.{with_bit}
use Rattle.bit_place.proofs.Places.{even, odd}
use Rattle.bit_place.proofs.with_bit.Goals as goal

pub returns-then-b-eq0 : goal.returns-then-b-eq0
unfolding with_bit
returns-then-b-eq0 c = rw (even _ c.if-b-eq0.true, one_shl c.args.k 8 (omega arith)) refl

pub returns : goal.returns
unfolding with_bit
returns c = rw (odd _ c.if-b-eq0.false, one_shl c.args.k 8 (omega arith)) refl
