-- `rav1d_calc_lf_values` meets its contract: the areas are stored from the front, and what lies behind the counter is as it was.
use mathlib.Core.List.{◌++◌}
use mathlib.Core.Path.{◌≡◌}
use Prim.Native.Nat.{◌*◌}
use lib.ListN.{length, drop}
use Rattle.loops.specs.Table.{tabulate}
use Rattle.levels.specs.Levels.{byte_at}
use Rattle.levels.specs.Helpers.{header_in}
use Rattle.levels.proofs.Header.rav1d_calc_lf_values.Given as goal

abbrev pub invariant-loop-c : goal.invariant-loop-c
invariant-loop-c l =
    (length l.values ≡ length l.initial.values)
    × (l.values ≡ tabulate (byte_at (header_in l.self)) (16 * l.c) ++ drop (16 * l.c) l.initial.values)
