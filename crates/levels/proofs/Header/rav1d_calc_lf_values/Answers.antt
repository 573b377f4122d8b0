-- `rav1d_calc_lf_values` meets its contract: the areas are stored from the front, and what lies behind the counter is as it was.
use mathlib.Core.Path.{refl, sym, ◌∙◌}
use native.Mathlib.Omega.{arith}
use Rattle.levels.proofs.Sixteen.{cleared, areas-again, areas-done}
use Rattle.levels.proofs.Header.rav1d_calc_lf_values.Goals as goal

pub returns-then-luma_off : goal.returns-then-luma_off
returns-then-luma_off c =
    cleared _ (sym c.luma_off.ensures ∙ c.if-luma_off.true)
    c.areas-n.result _ _
    c.areas-n.ensures.0 (omega arith) c.clear.ensures

pub loop-c-init : goal.loop-c-init
loop-c-init c = (refl, refl)

pub loop-c-preserved : goal.loop-c-preserved
loop-c-preserved c =
    let l = c.loop-c in (
      c.calc_area.auto.values ∙ l.invariant.0,
      areas-again _ (sym c.luma_off.ensures ∙ c.if-luma_off.false)
          l.c _ _ _ (omega arith) l.invariant.1 c.calc_area.ensures,
    )

pub returns : goal.returns
returns c =
    areas-done _ c.areas-n.result c.loop-c.c _ _ c.areas-n.ensures.0 (omega arith) c.loop-c.invariant.1
