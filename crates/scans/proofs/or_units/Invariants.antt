-- `or_units` meets its contract: the words passed are or-ed together.
use mathlib.Core.Path.{◌≡◌}
use Rattle.scans.specs.Or.{or_units}
use Rattle.scans.proofs.or_units.Given as goal

abbrev pub invariant-loop-unit : goal.invariant-loop-unit
invariant-loop-unit l = l.acc ≡ or_units l.levels l.unit-index l.at
