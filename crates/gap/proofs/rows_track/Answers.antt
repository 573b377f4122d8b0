-- `rows_track` meets its contract: the record lies in the masks, and so do the row's units in it.
use mathlib.Core.Path.{◌∙◌}
use Prim.Native.Nat.{◌*◌, ◌/◌}
use native.Mathlib.Omega.{arith}
use Rattle.plane.specs.Line.{rows}
use Rattle.units.specs.Frame.{records}
use Rattle.gap.specs.Track.{track, row_words}
use Rattle.units.proofs.Places.{side-le}
use Rattle.gap.proofs.Frames.{record-place, record-in, lines_of, rows_fit, rows_walked}
use Rattle.gap.proofs.rows_track.Goals as goal

pub part-requires : goal.part-requires
part-requires c =
    let a = c.args in
    let f = c.requires.0 in
    let k = lines_of _ a.g.w4.0 a.g.h4.0 a.sb4.0 a.k f a.g.ss_ver (omega arith) in (
      rows_fit (a.k * a.sb4.0 / 32) (records a.g.w4.0) _ _ c.record_row.ensures
          c.records_along-records.ensures a.g.luma _ a.rec _ _
          (record-in _ a.g.w4.0 a.g.h4.0 a.sb4.0 a.k f a.rec (omega arith)) c.record_start-at.ensures
          (omega (arith, k.room, side-le a.g.ss_ver (omega arith), c.first_line-first.ensures, c.chroma_unit-sb.ensures)),
      omega
          (arith, c.row_units-n.ensures, c.chroma_unit-sb.ensures),
    )

pub returns : goal.returns
returns c =
    let a = c.args in
    let b = record-place (a.k * a.sb4.0 / 32) (records a.g.w4.0) _ _ c.record_row.ensures
    c.records_along-records.ensures a.g.luma rows a.rec _
    c.record_start-at.ensures in
    rows_walked a.masks.now a.g.luma _ _ _ _ _ _
    (omega (arith, c.row_units-n.ensures, c.chroma_unit-sb.ensures)) c.start.ensures
    c.part.ensures
    ∙ (λ i. track (row_words a.masks.now a.g.luma (b i) (c.first_line-first.ensures i))
    (c.row_units-n.ensures i) (c.chroma_unit-sb.ensures i))
