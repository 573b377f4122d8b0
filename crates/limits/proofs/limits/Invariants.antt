-- `limits` meets its contract: the tables are filled from the front, and what lies behind the level is still zero.
use mathlib.Core.List.{◌++◌}
use mathlib.Core.Path.{◌≡◌}
use lib.ListN.{drop, replicate}
use Rattle.loops.specs.Table.{tabulate}
use Rattle.standard.specs.Strength.{limit, blimit}
use Rattle.limits.proofs.limits.Given as goal

abbrev pub invariant-loop-level : goal.invariant-loop-level
invariant-loop-level l =
    (l.e ≡ tabulate (blimit l.sharpness) l.level ++ drop l.level (replicate 64 0))
    × (l.i ≡ tabulate (limit l.sharpness) l.level ++ drop l.level (replicate 64 0))
