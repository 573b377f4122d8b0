-- Many words at once.
--     or_below     the words f 0, f 1, .. f (n - 1) or-ed together
use Rattle.std.specs.Prelude.{ℕ, zero, suc}
use Rattle.std.specs.Int.Bits.{bit_or}

unfoldable pub or_below : ℕ → (ℕ → ℕ) → ℕ
or_below zero f = 0
or_below (suc n) f = bit_or (or_below n f) (f n)
