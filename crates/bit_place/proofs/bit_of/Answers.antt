-- `bit_of` meets its contract: a shifted byte is odd where it has the bit.
use mathlib.Core.Path.{sym}
use native.Mathlib.Nat.{mod-lt}
use native.Mathlib.Omega.{arith}
use Rattle.bit_place.proofs.Places.{worth-bit}
use Rattle.bit_place.proofs.bit_of.Goals as goal

pub returns : goal.returns
returns c = (sym (worth-bit c.args.byte c.args.k), mod-lt _ (omega arith))
