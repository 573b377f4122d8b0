-- What holds of a pass over a superblock row.
--   Promises       the promises, one a field
use Rattle.std.specs.Prelude.{◌≡◌, List, ℕ, ◌*◌, ◌^◌, ◌≤◌, ◌<◌, length, get_or}
use Rattle.std.proofs.Math.Option.{some}
use Rattle.bits.specs.Mark.{Words}
use Rattle.plane.specs.Line.{Pass, columns, rows, Piece, ix, line_step, sample_step}
use Rattle.plane.specs.Plane.{Plane, class, act, cols_of, rows_of}
use Rattle.piece.specs.Samples.{PieceUnder}
use Rattle.filter.specs.declared.Component.{Component}
use Rattle.filter.specs.Filter.{Tables, plane_of, sweep_of}
use Rattle.filter.specs.Ready.{Stored, Fit, Under}

pub record Promises : Type 0 where
  -- it is the plane's
  pub columns-are : (P : Plane) (k : ℕ) (s : List ℕ) → sweep_of P columns k s ≡ cols_of P k s
  pub rows_are : (P : Plane) (k : ℕ) (s : List ℕ) → sweep_of P rows k s ≡ rows_of P k s
  -- no sample is added or lost
  pub keeps : (P : Plane) (d : Pass) (k : ℕ) (s : List ℕ) → length (sweep_of P d k s) ≡ length s
  -- what one unit does keeps the samples in the depth's range, where those that it reads are
  pub unit-range : (c : Component) (t : Tables) (d : Pass) (p : Piece) (s : List ℕ) → 8 ≤ t.depth
      → ((cls : ℕ) → class (plane_of c t) d p ≡ some cls
      → ((plane_of c t).widths.reads cls ≤ 4 * p.0)
      × PieceUnder (2 ^ t.depth) ((plane_of c t).widths.reads cls) (line_step d c.stride) (sample_step d c.stride) (ix d c.stride (4 * p.1) (4 * p.0)) s)
      → (j : ℕ) → get_or s j 0 < 2 ^ t.depth → get_or (act (plane_of c t) d p s) j 0 < 2 ^ t.depth
  -- and so does the pass, where those of the row are
  pub range : (c : Component) (t : Tables) (d : Pass) (k : ℕ) (s : List ℕ) → Stored c t (length s) → Fit c t d k → Words t.masks → 8 ≤ t.depth
      → Under (2 ^ t.depth) c d k s → (j : ℕ) → get_or s j 0 < 2 ^ t.depth → get_or (sweep_of (plane_of c t) d k s) j 0 < 2 ^ t.depth
