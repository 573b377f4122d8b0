-- What a callee is handed of an i8 that was read is the number, since reading a fitting number back from its bits gives it.
use mathlib.Core.Path.{◌≡◌}
use Prim.Native.Nat.{◌<◌}
use lib.IntN.{ℤ}
use lib.Signed.{mag}
use mir.Syntax.{w8}
use mir.Val.{to_z, of_z}
use mir.ValLaws.{to_z-of_z}

pub seen : (d : ℤ) → mag d < 128 → to_z w8 (of_z w8 d) ≡ d
seen d h = to_z-of_z w8 d (record { sfits = h })
