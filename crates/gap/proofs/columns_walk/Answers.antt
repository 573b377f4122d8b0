-- `columns_walk` meets its contract: after rec records the state is that of their units.
use native.Mathlib.Omega.{arith}
use Rattle.gap.proofs.Frames.{columns-none, columns-more}
use Rattle.gap.proofs.columns_walk.Goals as goal

pub loop-rec-init : goal.loop-rec-init
loop-rec-init c =
    let a = c.args in
    (omega arith, columns-none a.masks.now a.luma a.halves a.base a.ss a.width (omega arith) _ c.start-t.ensures)

pub loop-rec-preserved : goal.loop-rec-preserved
loop-rec-preserved c =
    let a = c.args in (
      omega arith,
      columns-more a.masks.now a.luma a.halves a.base a.ss a.width (omega arith) c.loop-rec.rec _ _ _
          c.in_record-n.ensures c.loop-rec.invariant.1 c.part-t.ensures,
    )
