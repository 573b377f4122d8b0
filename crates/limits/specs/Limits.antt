-- The limit table of a sharpness: document 01, "Limits and levels", by 7.14.4 of the standard.
--   sharp_cap s     the second sharp word: 9 - s, or 255 at sharpness 0
--   table_of s      e and i of each level 0..63, and the two sharp words
--   no_table        zeros
--   LimitAnswer     a number and a table
--   limits_of s     the answer by value: number 1 and no table above 7
--   answer_of       what a result says, as a number and a table
--   lut e i w       a table of its three arrays
--   LimitsLent      the contract of the two forms that fill a lent table: the same number, and a refusal stores nothing
use Rattle.std.specs.Prelude.{cond, List, [], ◌∷◌, ◌≡◌, ℕ, ◌+◌, ◌-◌, ◌/◌, eqb, ltb, replicate, Result, Ok, Err}
use Rattle.loops.specs.Table.{tabulate}
use Rattle.standard.specs.Strength.{limit, blimit}
use Rattle.refusals.specs.declared.Refusal.{Refusal}
use Rattle.refusals.specs.Numbers.{number_of}
use Rattle.limits.specs.declared.Av1FilterLUT.{Av1FilterLUT}

unfoldable pub sharp_cap : ℕ → ℕ
sharp_cap s = cond (eqb s 0) 255 (9 - s)

abbrev pub table_of : ℕ → Av1FilterLUT
table_of s = record { e = tabulate (blimit s) 64; i = tabulate (limit s) 64; sharp = (s + 3) / 4 ∷ sharp_cap s ∷ [] }

abbrev pub no_table : Av1FilterLUT
no_table = record { e = replicate 64 0; i = replicate 64 0; sharp = 0 ∷ 0 ∷ [] }

pub record LimitAnswer : Type 0 where
  pub number : ℕ
  pub table : Av1FilterLUT

unfoldable pub limits_of : ℕ → LimitAnswer
limits_of s = cond (ltb 7 s) (record { number = 1; table = no_table }) (record { number = 0; table = table_of s })

abbrev pub answer_of : Result Av1FilterLUT Refusal → LimitAnswer
answer_of (Ok t) = record { number = 0; table = t }
answer_of (Err r) = record { number = number_of r; table = no_table }

abbrev pub lut : List ℕ → List ℕ → List ℕ → Av1FilterLUT
lut e i w = record { e = e; i = i; sharp = w }

pub record LimitsLent (s r : ℕ) (before after : Av1FilterLUT) : Type 0 where
  pub code : r ≡ (limits_of s).number
  pub stored : after ≡ cond (eqb r 0) (table_of s) before
