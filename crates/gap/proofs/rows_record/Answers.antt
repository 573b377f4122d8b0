-- `rows_record` meets its contract: RowPass, in one record.
use native.Mathlib.Omega.{arith}
use Rattle.gap.specs.Grid.{grid_of}
use Rattle.gap.proofs.RowPass.{record-found}
use Rattle.gap.proofs.Frames.{lines_of}
use Rattle.gap.proofs.rows_record.Goals as goal

pub returns : goal.returns
returns c =
    let a = c.args in
    let f = c.requires.0 in
    let p = a.g.proper in
    record-found (grid_of a.g) p a.masks.now
    (λ i. omega (arith, c.shared_slice_known-1.given i)) a.sb4.0 a.k a.rec
    (lines_of _ a.g.w4.0 a.g.h4.0 a.sb4.0 a.k f a.g.ss_ver p.ss-ver-le) _ _ _ c.rows_track-t.ensures
    c.record_lines-live.ensures c.answer.ensures
