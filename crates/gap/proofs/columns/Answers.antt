-- `columns` meets its contract: ColumnPass.
use native.Mathlib.Omega.{arith}
use Rattle.gap.specs.Grid.{grid_of}
use Rattle.gap.proofs.ColumnPass.{columns-found}
use Rattle.gap.proofs.Frames.{lines_of, halves_of}
use Rattle.gap.proofs.columns.Goals as goal

pub returns : goal.returns
returns c =
    let a = c.args in
    let f = c.requires in
    let p = a.g.proper in
    columns-found (grid_of a.g) p a.masks.now
    (λ i. omega (arith, c.shared_slice_known-1.given i)) a.sb4.0 a.k
    (lines_of _ a.g.w4.0 a.g.h4.0 a.sb4.0 a.k f a.g.ss_ver p.ss-ver-le) (halves_of _ a.g.w4.0 a.g.h4.0 a.sb4.0 a.k f) _ _ _
    c.columns_track-t.ensures c.row_lines-live.ensures c.answer.ensures
