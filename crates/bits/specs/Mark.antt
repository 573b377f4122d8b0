-- A list of 16-bit words as a set of bits: bit e is bit e % 16 of word e / 16.
--     is_set           the set has the bit
--     mark, unmark     the set with the bit, and without it
--     marks            with the bits f 0, f 1, .. f (n - 1)
--     Words            every word fits 16 bits
--     Adds             a change of the set adds the bits of P, and no other
use Rattle.std.specs.Prelude.{◌≡◌, Bool, ◌||◌, List, ℕ, ◌-◌, ◌/◌, ◌%◌, ◌^◌, ◌<◌, length, get_or, set}
use Rattle.std.specs.Int.Bits.{bit_and, bit_or}
use Rattle.loops.specs.Run.{up_to}
use Rattle.bits.specs.Bit.{has_bit}

unfoldable pub is_set : List ℕ → ℕ → Bool
is_set ms e = has_bit (get_or ms (e / 16) 0) (e % 16)

unfoldable pub mark : List ℕ → ℕ → List ℕ
mark ms e = set ms (e / 16) (bit_or (get_or ms (e / 16) 0) (2 ^ (e % 16)))

unfoldable pub unmark : List ℕ → ℕ → List ℕ
unmark ms e = set ms (e / 16) (bit_and (get_or ms (e / 16) 0) ((2 ^ 16 - 1) - 2 ^ (e % 16)))

unfoldable pub marks : ℕ → (ℕ → ℕ) → List ℕ → List ℕ
marks n f = up_to (λ y ms. mark ms (f y)) n

unfoldable pub Words : List ℕ → Type 0
Words ms = (i : ℕ) → get_or ms i 0 < 2 ^ 16

-- in a list of n words
pub record Adds (n : ℕ) (g : List ℕ → List ℕ) (P : ℕ → Bool) : Type 0 where
  pub long : (ms : List ℕ) → length ms ≡ n → length (g ms) ≡ n
  pub bits : (ms : List ℕ) → length ms ≡ n → (x : ℕ) → is_set (g ms) x ≡ (is_set ms x || P x)
