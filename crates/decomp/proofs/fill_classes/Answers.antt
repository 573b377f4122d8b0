-- The rows passed are those of both rectangles.
use mathlib.Core.Path.{◌∙◌}
use native.Mathlib.Omega.{arith}
use Rattle.decomp.proofs.Fills.{fill_none, classes-step}
use Rattle.decomp.proofs.fill_classes.Goals as goal

pub loop-y-init : goal.loop-y-init
loop-y-init c = fill_none _ _ _ _ ∙ fill_none _ _ _ _

pub loop-y-preserved : goal.loop-y-preserved
loop-y-preserved c =
    classes-step c.args.at c.args.w c.loop-y.y c.args.u c.args.v _ _ _ c.requires.1
    (omega (arith, c.loop-y-test.true, c.requires.2)) c.loop-y.invariant c.fill_pair.ensures
