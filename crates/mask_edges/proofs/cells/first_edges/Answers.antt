-- The lines passed have the block's edge, and the context of its last units.
use Rattle.mask_edges.proofs.Contexts.{stores-here}
use Rattle.mask_edges.proofs.LoopTurns.{block_none, block-step, stores-none, stores-step}
use Rattle.mask_edges.specs.Folds.{bit_in, class_in}
use lib.ListN.{length-set, get_or}
use mathlib.Core.Path.{◌≡◌, refl, ap₂, ◌∙◌}
use Prim.Native.Nat.{ℕ, ◌-◌, min}
use Rattle.std.proofs.Common.{rules}
use Rattle.mask_edges.proofs.cells.first_edges.Goals as goal

pub loop-v-init : goal.loop-v-init
loop-v-init c = (refl, refl, block_none _ _ _ _, stores-none _ _)

pub loop-v-preserved : goal.loop-v-preserved
loop-v-preserved c =
    let l = c.loop-v in
    let a = c.args in
    let last = class_in a.txa.now a.p (a.p.across - 1) in
    let k : c.min-k.result ≡ min c.cell-class.result (get_or l.ctx l.v 0) = search rules in (
      c.set_edge.auto.masks ∙ l.invariant.0,
      simp length-set l.invariant.1,
      block-step (bit_in a.p) (class_in a.txa.now a.p 0) (λ i. get_or a.ctx.now i 0) l.v _ _ _ _ l.invariant.2
          (k ∙ ap₂ (λ (m n : ℕ). min m n) c.cell-class.ensures (stores-here last l.v _ _ l.invariant.3)) c.set_edge.ensures,
      stores-step last _ _ _ _ l.invariant.3 c.cell.ensures,
    )
