-- Bits of a list of bytes by place: place p is bit 7 - p % 8 of byte p / 8.
--   bit_at l p         the bit at a place; past the end it is 0
--   places s p n       n bits of a stream from place p on
--   bits_from l p      the bits of the bytes from a place to the end
--   number_at s p n    n bits from place p on as a number, the first the highest
--   with_bit m k b     a byte with its bit k put, the lowest being bit 0
--   put_bit l p b      the bytes with the bit at a place put
--   digits n v         the n lowest bits of a number, the highest first
--   laid bs p l        the bytes with bits put from a place on
use Rattle.std.specs.Prelude.{cond, List, [], ◌∷◌, ℕ, zero, suc, ◌+◌, ◌-◌, ◌*◌, ◌/◌, ◌%◌, ◌^◌, length, get_or, set}
use Rattle.std.specs.Int.Bits.{bit_and, bit_or}
use Rattle.bits.specs.Bit.{has_bit}
use Rattle.standard.specs.Header.{Bit, worth}

unfoldable pub bit_at : List ℕ → ℕ → Bit
bit_at l p = has_bit (get_or l (p / 8) 0) (7 - p % 8)

abbrev pub places : (ℕ → Bit) → ℕ → ℕ → List Bit
places s p zero = []
places s p (suc n) = s p ∷ places s (suc p) n

abbrev pub bits_from : List ℕ → ℕ → List Bit
bits_from l p = places (bit_at l) p (8 * length l - p)

unfoldable pub number_at : (ℕ → Bit) → ℕ → ℕ → ℕ
number_at s p zero = 0
number_at s p (suc n) = 2 * number_at s p n + worth (s (p + n))

unfoldable pub with_bit : ℕ → ℕ → Bit → ℕ
with_bit m k b = cond b (bit_or m (2 ^ k)) (bit_and m ((2 ^ 8 - 1) - 2 ^ k))

unfoldable pub put_bit : List ℕ → ℕ → Bit → List ℕ
put_bit l p b = set l (p / 8) (with_bit (get_or l (p / 8) 0) (7 - p % 8) b)

unfoldable pub digits : ℕ → ℕ → List Bit
digits zero v = []
digits (suc n) v = has_bit v n ∷ digits n v

abbrev pub laid : List Bit → ℕ → List ℕ → List ℕ
laid [] p l = l
laid (b ∷ bs) p l = laid bs (suc p) (put_bit l p b)
