-- What the numbers promise of the answers of calls, as theorems.
--   Promises     a number stands for one refusal, and 0 for none
use Rattle.std.specs.Prelude.{◌≡◌}
use Rattle.refusals.specs.declared.Refusal.{Refusal}
use Rattle.refusals.specs.Numbers.{number_of}

pub record Promises : Type 0 where
  pub unique : (r q : Refusal) → number_of r ≡ number_of q → r ≡ q
  pub some : (r : Refusal) → ¬ (number_of r ≡ 0)
