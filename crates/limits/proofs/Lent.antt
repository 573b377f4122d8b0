-- What the answer by value says of a lent table: number 0 comes with the table of the sharpness, any other leaves a table as it was.
use mathlib.Core.Path.{◌≡◌, refl, ap, ◌∙◌}
use mathlib.Core.Logic.{by_cases}
use Prim.Native.Nat.{ℕ, ◌<◌, ◌≤◌}
use native.Mathlib.Decide.{dec_lt}
use native.Mathlib.Omega.{arith}
use borrow.Author.Tests.{lt-ltb, le-ltb, ne_eqb}
use borrow.Author.Rules.{rules}
use Rattle.std.specs.Prelude.{Result, Ok, Err}
use Rattle.std.specs.Result.{IsOk}
use Rattle.refusals.specs.declared.Refusal.{Refusal}
use Rattle.refusals.specs.Numbers.{number_of}
use Rattle.limits.specs.Limits.{LimitAnswer, table_of, no_table, limits_of, answer_of, LimitsLent}
use Rattle.limits.specs.declared.Av1FilterLUT.{Av1FilterLUT}

pub above : (s : ℕ) → 7 < s → limits_of s ≡ record { number = 1; table = no_table }
unfolding limits_of
above s h = rw (lt-ltb 7 s h) refl

pub within : (s : ℕ) → s ≤ 7 → limits_of s ≡ record { number = 0; table = table_of s }
unfolding limits_of
within s h = rw (le-ltb 7 s h) refl

module _ (s : ℕ) (a : LimitAnswer) (e : a ≡ limits_of s) where
  abbrev same_number : a.number ≡ (limits_of s).number
  same_number = ap (λ (x : LimitAnswer). x.number) e

  pub done : (before : Av1FilterLUT) → a.number ≡ 0 → LimitsLent s a.number before a.table
  done before z =
      record {
        code = same_number;
        stored =
            by_cases (dec_lt 7 s) (λ h. absurd (omega (arith, same_number, ap (λ (x : LimitAnswer). x.number) (above s h))))
            (λ n. ap (λ (x : LimitAnswer). x.table) (e ∙ within s (omega arith)) ∙ rw z refl);
      }

  pub kept : (before : Av1FilterLUT) → ¬ (a.number ≡ 0) → LimitsLent s a.number before before
  kept before z = record { code = same_number; stored = rw (ne_eqb a.number 0 z) refl }

-- a sharpness up to 7 has a table
pub accepted : (s : ℕ) → s ≤ 7 → (r : Result Av1FilterLUT Refusal) → answer_of r ≡ limits_of s → IsOk r
accepted s h (Ok t) e = search rules
accepted s h (Err r) e = absurd (refused r (ap (λ (x : LimitAnswer). x.number) (e ∙ within s h)))
  where
    refused : (r : Refusal) → ¬ (number_of r ≡ 0)
    refused r e = grind arith
