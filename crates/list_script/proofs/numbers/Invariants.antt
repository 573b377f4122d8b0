-- The fields before the place are numbers, and stored.
use Rattle.std.proofs.Common.{◌≡◌, ℕ, ◌+◌, ◌<◌, eqb, false, get_or, length}
use Rattle.loops.specs.Any.{any_below}
use Rattle.list_decimal.specs.Decimal.{no_number}
use Rattle.list_script.specs.Script.{number_at}
use Rattle.list_script.proofs.numbers.Given as goal

abbrev pub invariant-loop-k : goal.invariant-loop-k
invariant-loop-k g l =
    record {
      whole : length l.n-items ≡ g.row.N;
      numbers : any_below l.k (λ j. eqb (number_at l.s (j + 1)) no_number) ≡ false;
      stored : (j : ℕ) → j < l.k → get_or l.n-items j 0 ≡ number_at l.s (j + 1);
    }
