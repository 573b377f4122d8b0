-- `unit` meets its contract, in the frame and past it.
use Rattle.gap.specs.Track.{unit_t}
use Rattle.gap.proofs.track.unit.Goals as goal

pub returns-then-inside : goal.returns-then-inside
unfolding unit_t
returns-then-inside c = rw c.if-inside.true c.step.ensures

pub returns : goal.returns
unfolding unit_t
returns c = rw c.if-inside.false c.step-2.ensures
