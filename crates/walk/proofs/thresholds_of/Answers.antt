-- The thresholds, field by field, each the callee's own answer.
use Rattle.std.proofs.Common.{◌∙◌, one-mul}
use Rattle.walk.specs.Walk.{thresholds}
use Rattle.walk.proofs.WidthsThresholds.{by-fields}
use Rattle.walk.proofs.thresholds_of.Goals as goal

pub returns : goal.returns
unfolding thresholds
returns c =
    by-fields _ _ c.scaled.ensures c.scaled-2.ensures c.scaled-3.ensures (c.scaled-4.ensures ∙ one-mul _)
    c.scaled-5.ensures
