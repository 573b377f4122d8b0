-- The steps passed have their edges.
use Rattle.mask_edges.proofs.LoopTurns.{step-none, step-step, no_step}
use Rattle.mask_edges.specs.Folds.{bit_in}
use mathlib.Core.Path.{refl, ◌∙◌}
use Rattle.mask_edges.proofs.grid.step_edges.Goals as goal

pub returns-then-p-step : goal.returns-then-p-step
returns-then-p-step c =
    rw (← no_step c.args.p.across c.args.step c.requires.2 c.if-p-step.true) (step-none _ _ _ _ _)

pub loop-i-init : goal.loop-i-init
loop-i-init c = (refl, step-none _ _ _ _ _)

pub loop-i-preserved : goal.loop-i-preserved
loop-i-preserved c =
    let a = c.args in (
      c.set_edges.auto.masks ∙ c.loop-i.invariant.0,
      step-step (bit_in a.p) a.p.along a.step a.class c.loop-i.i _ _ _ c.loop-i.invariant.1 c.set_edges.ensures,
    )
