-- What is promised of numbers as text.
--   Promises     a number below 10 ^ 9 is read back from its text; a number below 10 ^ j has at most j digits; only 1 to 9 digits are read
use Rattle.std.specs.Prelude.{true, false, List, ◌≡◌, ℕ, suc, ◌^◌, ◌≤◌, ◌<◌, length}
use Rattle.list_decimal.specs.Decimal.{numeral, no_number, number_of, value, decimal}

pub record Promises : Type 0 where
  pub back : (n : ℕ) → n < 1000000000 → number_of (decimal n) ≡ n
  pub whole : (n : ℕ) → n < 1000000000 → numeral (decimal n) ≡ true
  pub short : (n j : ℕ) → n < 10 ^ suc j → length (decimal n) ≤ suc j
  pub read : (s : List ℕ) → numeral s ≡ true → number_of s ≡ value 0 s
  pub small : (s : List ℕ) → numeral s ≡ true → number_of s < 1000000000
  pub none : (s : List ℕ) → numeral s ≡ false → number_of s ≡ no_number
