-- The way back from su(1+6).
--   seven_of d     the seven bits of a number from -64 to 63, as a number
use Rattle.std.specs.Prelude.{ℕ, ◌%◌, ℤ, pos, nat_abs, ◌+ℤ◌}

unfoldable pub seven_of : ℤ → ℕ
seven_of d = nat_abs (d +ℤ pos 128) % 128
