-- `rows` meets its contract: after rec records the answers are those of their lines and halves.
use mathlib.Core.Path.{◌≡◌, ap, ◌∙◌}
use native.Mathlib.Omega.{arith}
use Rattle.units.specs.Frame.{records}
use Rattle.gap.specs.Grid.{grid_of}
use Rattle.gap.proofs.RowPass.{gap_up_to, out_up_to, gap-none, out_none, gap_more, out-more, rows-found}
use Rattle.gap.proofs.rows.Goals as goal

pub loop-rec-init : goal.loop-rec-init
loop-rec-init c =
    let a = c.args in
    let e = c.default-found.ensures in
    (omega arith, e.0 ∙ gap-none (grid_of a.g) a.masks.now a.sb4.0 a.k, e.1 ∙ out_none (grid_of a.g) a.masks.now a.sb4.0 a.k)

pub loop-rec-preserved : goal.loop-rec-preserved
loop-rec-preserved c =
    let a = c.args in
    let l = c.loop-rec in
    let e = c.bitor-found.ensures in (
      omega arith,
      e.0
          ∙ gap_more (grid_of a.g) a.masks.now a.sb4.0 a.k l.rec _ _ c.rows_record.ensures a.g.proper.ss-hor-le
          (omega (arith, c.records_along-records.ensures)) l.invariant.1,
      e.1 ∙ out-more (grid_of a.g) a.masks.now a.sb4.0 a.k l.rec _ _ c.rows_record.ensures l.invariant.2,
    )

pub returns : goal.returns
returns c =
    let a = c.args in
    let l = c.loop-rec in
    let e : l.rec ≡ records a.g.w4.0 = omega (arith, c.records_along-records.ensures) in
    rows-found (grid_of a.g) a.masks.now a.sb4.0 a.k _ a.g.proper.ss-hor-le
    (l.invariant.1 ∙ ap (gap_up_to (grid_of a.g) a.masks.now a.sb4.0 a.k) e) (l.invariant.2 ∙ ap (out_up_to (grid_of a.g) a.masks.now a.sb4.0 a.k) e)
