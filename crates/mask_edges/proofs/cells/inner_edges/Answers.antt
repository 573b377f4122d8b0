-- The lines passed have their inner edges.
use Rattle.mask_edges.proofs.Walks.{lines_none, lines_step}
use Rattle.mask_edges.specs.Folds.{bit_in, class_in, step_in}
use mathlib.Core.Path.{refl, ◌∙◌}
use Rattle.mask_edges.proofs.cells.inner_edges.Goals as goal

pub loop-v-init : goal.loop-v-init
loop-v-init c = (refl, lines_none _ _ _ _ _)

pub loop-v-preserved : goal.loop-v-preserved
loop-v-preserved c = (
  c.line_edges.auto.masks ∙ c.loop-v.invariant.0,
  lines_step (bit_in c.args.p) c.args.p.across (class_in c.args.txa.now c.args.p) (step_in c.args.txa.now c.args.p)
      c.loop-v.v _ _ _ c.loop-v.invariant.1 c.line_edges.ensures,
)
