-- `luma_levels_high` meets its contract: `levels-high`, at the byte of the pass.
use mathlib.Core.Path.{◌∙◌}
use native.Mathlib.Omega.{arith}
use Rattle.scans.specs.Scan.{levels_high}
use Rattle.scans.proofs.Levels.{levels-high}
use Rattle.scans.proofs.luma_levels_high.Goals as goal

pub returns : goal.returns
returns c =
    let a = c.args in
    let p = c.pass_no-pass.ensures in
    c.byte_high.ensures
    ∙ levels-high a.levels.now (λ i. omega (arith, c.shared_slice_known-1.given i)) a.level_stride a.w4.0 _ (omega (arith, p.1))
    a.h4.0 a.sb4.0 _ a.k _ c.row_levels-r.ensures
    ∙ (λ i. levels_high a.levels.now a.level_stride (p.0 i) a.w4.0 a.h4.0 a.sb4.0 (p.0 i) a.k)
