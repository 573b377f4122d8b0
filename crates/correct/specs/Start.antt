-- The start of a tile in a frame, document 01, "Tile correction". The code's `Start` holds the frame, the pass (rows or not), the
-- superblock row, and the superblock at which the tile's first column lies, 0 in the row pass.
--   w4, h4, sb4               the frame and a superblock's side, in luma units
--   grid_at                   the luma or the chroma plane's units
--   begin                     the superblock whose first line of units across the pass is the tile's first
--   across                    that line, in units of a plane
--   first, end                along it the units from `first` on, below `end`: those of the superblock row, or in the row pass all of the frame
--   line_of                   all of these as the code's `TileEdge`
--   inside                    superblock row and tile start lie in the frame
--   corrects                  something is corrected in a plane: inside the frame, not at its unit 0, and no chroma at 4:0:0
-- and what the code asks
--   Shaped                    sides of a frame and of a superblock
--   Inside                    and a start in the frame
use Rattle.std.specs.Prelude.{Bool, cond, ◌&&◌, ◌||◌, ◌⊎◌, ◌≡◌, ℕ, ◌+◌, ◌-◌, ◌*◌, ◌≤◌, ◌<◌, min, ltb}
use Rattle.units.specs.Units.{units_of, chroma_unit, chroma_units}
use Rattle.units.specs.Layout.{has_chroma, ss_hor, ss_ver}
use Rattle.units.specs.Frame.{superblock_units, superblocks}
use Rattle.edges.specs.Edges.{Grid, grid_of, ss_of}
use Rattle.plane.specs.Line.{pass_of}
use Rattle.correct.specs.declared.Start.{Start}
use Rattle.correct.specs.declared.TileEdge.{TileEdge}

abbrev pub w4 : Start → ℕ
w4 t = units_of t.width.0

abbrev pub h4 : Start → ℕ
h4 t = units_of t.height.0

abbrev pub sb4 : Start → ℕ
sb4 t = superblock_units t.superblock

abbrev pub grid_at : Start → Bool → Grid
grid_at t luma = grid_of luma (cond luma 0 (ss_hor t.layout)) (cond luma 0 (ss_ver t.layout)) (w4 t) (h4 t)

abbrev pub begin : Start → ℕ
begin t = cond t.rowwise t.row t.start

abbrev pub across : Start → Bool → ℕ
across t luma = chroma_unit (ss_of (grid_at t luma) (pass_of t.rowwise)) (begin t * sb4 t)

abbrev pub first : Start → Bool → ℕ
first t luma = cond t.rowwise 0 (chroma_unit (grid_at t luma).ss-ver (t.row * sb4 t))

abbrev pub end : Start → Bool → ℕ
end t luma =
    cond t.rowwise (chroma_units (grid_at t luma).ss-hor (w4 t)) (chroma_units (grid_at t luma).ss-ver (min (h4 t) ((t.row + 1) * sb4 t)))

abbrev pub line_of : Start → Bool → TileEdge
line_of t luma =
    record {
      luma = luma;
      rowwise = t.rowwise;
      ss_hor = (grid_at t luma).ss-hor;
      ss_ver = (grid_at t luma).ss-ver;
      w4 = record { 0 = w4 t };
      h4 = record { 0 = h4 t };
      across = across t luma;
      first = first t luma;
      n = end t luma - first t luma;
    }

abbrev pub inside : Start → Bool
inside t = ltb t.row (superblocks (h4 t) (sb4 t)) && ltb t.start (superblocks (w4 t) (sb4 t))

abbrev pub corrects : Start → Bool → Bool
corrects t luma = (luma || has_chroma t.layout) && (inside t && ltb 0 (begin t))

pub record Shaped (t : Start) : Type 0 where
  pub width : (1 ≤ t.width.0) × (t.width.0 ≤ 16384)
  pub height : (1 ≤ t.height.0) × (t.height.0 ≤ 16384)
  pub size : (t.superblock ≡ 64) ⊎ (t.superblock ≡ 128)

pub record Inside (t : Start) : Type 0 where
  pub width : t.width.0 ≤ 16384
  pub height : t.height.0 ≤ 16384
  pub size : (sb4 t ≡ 16) ⊎ (sb4 t ≡ 32)
  pub row_in : t.row * sb4 t < h4 t
  pub start-in : t.start * sb4 t < w4 t
