-- Samples in range.
--   Capped max l   none of l is above max
use Rattle.std.specs.Prelude.{ℕ, ◌≤◌, List, get_or}

pub record Capped (max : ℕ) (l : List ℕ) : Type 0 where
  pub at_most : (k : ℕ) → get_or l k 0 ≤ max
