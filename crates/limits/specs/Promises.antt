-- What document 01 promises of `limits`, as theorems on its contracts alone.
--   Promised     of one answer: its number, and the table before and after
--   Promises     of all; by value, the table before is all zeros
use Rattle.std.specs.Prelude.{List, ◌≡◌, ℕ, ◌+◌, ◌-◌, ◌/◌, ◌<◌, ◌≤◌, get_or, Result}
use Rattle.loops.specs.Exactly.{Exactly}
use Rattle.standard.specs.Strength.{limit, blimit}
use Rattle.refusals.specs.declared.Refusal.{Refusal}
use Rattle.limits.specs.Limits.{LimitAnswer, answer_of, no_table, limits_of, lut, LimitsLent}
use Rattle.limits.specs.declared.Av1FilterLUT.{Av1FilterLUT}

pub record Promised (s r : ℕ) (before after : Av1FilterLUT) : Type 0 where
  -- the numbers, exactly when
  pub one : Exactly (r ≡ 1) (7 < s)
  pub zero : Exactly (r ≡ 0) (s ≤ 7)
  -- a refusal stores nothing
  pub refused : 7 < s → after ≡ before
  -- i and e are the standard's limit and blimit of each level
  pub inner : s ≤ 7 → (level : ℕ) → level < 64 → get_or after.i level 0 ≡ limit s level
  pub outer : s ≤ 7 → (level : ℕ) → level < 64 → get_or after.e level 0 ≡ blimit s level
  -- the sharp words
  pub shift : s ≤ 7 → get_or after.sharp 0 0 ≡ (s + 3) / 4
  pub cap : 0 < s → s ≤ 7 → get_or after.sharp 1 0 ≡ 9 - s
  pub cap-0 : s ≡ 0 → get_or after.sharp 1 0 ≡ 255

pub record Promises : Type 0 where
  -- uniqueness: two answers that a contract admits are equal, by value, in a lent table and in three lent arrays
  pub unique : (s : ℕ) (r q : LimitAnswer) → r ≡ limits_of s → q ≡ limits_of s → r ≡ q
  pub unique-result : (s : ℕ) (r q : Result Av1FilterLUT Refusal) → answer_of r ≡ limits_of s → answer_of q ≡ limits_of s → r ≡ q
  pub unique-lent : (s r q : ℕ) (before a b : Av1FilterLUT) → LimitsLent s r before a → LimitsLent s q before b → (r ≡ q) × (a ≡ b)
  pub unique-arrays : (s r q : ℕ) (before : Av1FilterLUT) (e i w e' i' w' : List ℕ) → LimitsLent s r before (lut e i w) → LimitsLent s q before (lut e' i' w')
      → (r ≡ q) × (e ≡ e') × (i ≡ i') × (w ≡ w')
  -- the answer by value is what a lent table of zeros would hold
  pub by_value : (s : ℕ) (r : LimitAnswer) → r ≡ limits_of s → LimitsLent s r.number no_table r.table
  pub each : (s r : ℕ) (before after : Av1FilterLUT) → LimitsLent s r before after → Promised s r before after
