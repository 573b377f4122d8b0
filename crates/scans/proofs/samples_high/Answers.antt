-- `samples_high` meets its contract: `samples-high`, over the row's stored lines.
use mathlib.Core.Path.{◌∙◌}
use Prim.Native.Nat.{◌-◌, ◌*◌, ◌^◌}
use native.Mathlib.Omega.{arith}
use Rattle.plane.specs.Line.{pass_of, pass_no}
use Rattle.scans.specs.Scan.{samples_high}
use Rattle.scans.proofs.Samples.{samples-high}
use Rattle.scans.proofs.Frames.{samples-row}
use Rattle.scans.proofs.samples_high.Goals as goal

pub row_samples-r-requires : goal.row_samples-r-requires
row_samples-r-requires g c =
    let a = c.args in
    samples-row _ _ a.width.0 a.height.0 a.ss_hor a.ss_ver a.sb4.0 _ _ _ c.requires.0 (omega arith)
    (omega arith) c.stored_side-stored.ensures c.chroma_unit-sb.ensures

pub returns : goal.returns
returns g c =
    let a = c.args in
    samples-high (g.P.Pixel.samples a.s.now) a.stride _ a.depth _ (pass_no (pass_of a.rowwise)) a.k _ c.row_samples-r.ensures
    ∙ (λ i. samples_high (g.P.Pixel.samples a.s.now) a.stride (2 ^ a.depth - 1) (c.stored_side-stored.ensures i) (c.chroma_unit-sb.ensures i)
    (8 * pass_no (pass_of a.rowwise)) a.k)
