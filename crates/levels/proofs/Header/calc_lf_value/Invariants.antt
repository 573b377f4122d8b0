-- `calc_lf_value` meets its contract: the invariant says that the first j values are stored.
use mathlib.Core.Path.{◌≡◌}
use lib.ListN.{length}
use Rattle.levels.specs.Helpers.{stores, biased_level}
use Rattle.levels.proofs.Header.calc_lf_value.Given as goal

abbrev pub invariant-loop-j : goal.invariant-loop-j
invariant-loop-j l =
    (length l.values ≡ length l.initial.values) × (l.values ≡ stores (biased_level l.level l.lf l.seg l.self.enabled l.self.refs l.self.modes) l.at l.j l.initial.values)
