-- Numbers as text, in bytes.
--   is_digit b          the byte is `0` to `9`
--   digits s            every byte is a digit
--   value n s           the digits s after those of n
--   numeral s           1 to 9 digits
--   no_number           what reading answers for anything else
--   number_of s         what reading answers
--   decimal_in k n      its digits, at most k + 1 of them
--   decimal n           the number with no zeros in front
--   pasted l at s       the list l with s in place of what stands from `at` on
use Rattle.std.specs.Prelude.{Bool, true, ◌&&◌, cond, List, [], ◌∷◌, ◌++◌, ℕ, zero, suc, ◌+◌, ◌-◌, ◌*◌, ◌/◌, ◌%◌, leb, ltb, length, take, drop}

abbrev pub is_digit : ℕ → Bool
is_digit b = leb 48 b && leb b 57

abbrev pub digits : List ℕ → Bool
digits [] = true
digits (b ∷ s) = is_digit b && digits s

abbrev pub value : ℕ → List ℕ → ℕ
value n [] = n
value n (b ∷ s) = value (n * 10 + (b - 48)) s

-- zeros in front are digits as any other
abbrev pub numeral : List ℕ → Bool
numeral s = (leb 1 (length s) && leb (length s) 9) && digits s

abbrev pub no_number : ℕ
no_number = 4294967295

unfoldable pub number_of : List ℕ → ℕ
number_of s = cond (numeral s) (value 0 s) no_number

abbrev pub decimal_in : ℕ → ℕ → List ℕ
decimal_in zero n = (48 + n) ∷ []
decimal_in (suc k) n = cond (ltb n 10) ((48 + n) ∷ []) (decimal_in k (n / 10) ++ ((48 + n % 10) ∷ []))

-- n tenths of a number are more than it has digits
unfoldable pub decimal : ℕ → List ℕ
decimal n = decimal_in n n

abbrev pub pasted : List ℕ → ℕ → List ℕ → List ℕ
pasted l at s = take at l ++ (s ++ drop (at + length s) l)
