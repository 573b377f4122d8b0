-- `row_samples` meets its contract: its lines are those of the row, by Rows.
use Prim.Native.Nat.{◌*◌}
use Rattle.scans.proofs.Rows.{rows-cells}
use Rattle.scans.proofs.row_samples.Goals as goal

pub or_samples-requires : goal.or_samples-requires
or_samples-requires g c =
    let a = c.args in (
      rows-cells a.k a.lines (2 * c.pass_no-pass.result) _ c.saturating_sub-first.ensures a.stride _ c.requires.0,
      c.requires.1,
      c.requires.2,
    )
