-- Each part adds its bytes to those read before, and one that adds none is the last.
use Rattle.std.proofs.Common.{◌-◌}
use Rattle.list_steps.specs.Steps.{kept_of}
use Rattle.list_reading.specs.Reading.{Reached}
use Rattle.list_reading.proofs.parts.Given as goal

abbrev pub invariant-loop-p : goal.invariant-loop-p
invariant-loop-p g l =
    Reached (kept_of l.initial.p.carried l.initial.levels l.initial.masks) l.total (kept_of l.p.carried l.levels l.masks) l.p.at l.p.held l.p.read l.buf

abbrev pub decreases-loop-p : goal.decreases-loop-p
decreases-loop-p g l = l.total - l.p.read
