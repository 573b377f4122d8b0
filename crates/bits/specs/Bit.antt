-- The bits of a number.
--     bit         bit k of m, as a number
--     has_bit     as a test
use Rattle.std.specs.Prelude.{Bool, ℕ, ◌/◌, ◌%◌, ◌^◌, eqb}

unfoldable pub bit : ℕ → ℕ → ℕ
bit m k = m / 2 ^ k % 2

unfoldable pub has_bit : ℕ → ℕ → Bool
has_bit m k = eqb (m / 2 ^ k % 2) 1
