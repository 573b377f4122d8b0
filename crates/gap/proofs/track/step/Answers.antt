-- `step` meets its contract: `step_t`, field by field.
use Rattle.gap.proofs.Walks.{step-make}
use Rattle.gap.proofs.track.step.Goals as goal

pub returns : goal.returns
returns c = step-make c.args.s _ _ _ _ _ c.clash-r.ensures
