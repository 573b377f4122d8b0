-- `segment_base` meets its contract: the two clips are the standard's two steps.
use Rattle.deltas.proofs.Steps.{segment-base-is}
use Rattle.deltas.proofs.segment_base.Goals as goal

pub returns : goal.returns
returns c = (rw (← c.from.ensures) (segment-base-is _ _ _ _ _ c.clip63.ensures.0 c.clip63-2.ensures.0), c.clip63-2.ensures.1)
