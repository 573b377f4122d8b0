-- `chroma_levels_high` meets its contract: `levels-high` at bytes 2 and 3 of one scan.
use native.Mathlib.Omega.{arith}
use Rattle.plane.specs.Line.{pass_of}
use Rattle.scans.proofs.Levels.{chroma-levels}
use Rattle.scans.proofs.Frames.{levels-row}
use Rattle.scans.proofs.chroma_levels_high.Goals as goal

pub row_levels-r-requires : goal.row_levels-r-requires
row_levels-r-requires c =
    let a = c.args in
    levels-row _ _ a.w4.0 a.h4.0 a.ss_hor a.ss_ver a.sb4.0 _ _ _ _ c.requires.0 (omega arith)
    (omega arith) c.chroma_units-width.ensures c.chroma_units-height.ensures c.chroma_unit-sb.ensures

pub returns : goal.returns
returns c =
    let a = c.args in
    chroma-levels a.levels.now (λ i. omega (arith, c.shared_slice_known-1.given i)) a.level_stride a.w4.0 a.h4.0 a.ss_hor a.ss_ver
    a.sb4.0 a.k _ _ _ _ _ (pass_of a.rowwise) _ _ c.pass_no.ensures.0
    c.chroma_units-width.ensures
    c.chroma_units-height.ensures c.chroma_unit-sb.ensures
    c.row_levels-r.ensures c.byte_high.ensures c.byte_high-2.ensures
