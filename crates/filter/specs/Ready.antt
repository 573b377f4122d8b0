-- What filtering superblock row k of a plane in a pass asks: what the numbers up to 12 leave.
--   Stored c len                the plane's samples, level bytes and masks are there
--   Fit c t d k                 the row lies in the frame, its levels are at most 63, its lines keep the gap rule, and no bit lies outside
--   Under m c d k s             the samples of the row's stored lines, and in rows of the 8 above, are below m
use Rattle.std.specs.Prelude.{◌≡◌, List, ◌⊎◌, ℕ, ◌+◌, ◌*◌, ◌≤◌, ◌<◌, length, get_or}
use Rattle.plane.specs.Line.{Pass, columns, rows, pass_no}
use Rattle.units.specs.Frame.{records, frame_records}
use Rattle.units.specs.Memory.{level_at}
use Rattle.units.specs.Units.{chroma_unit}
use Rattle.edges.specs.Edges.{Proper, units_of, side}
use Rattle.gap.specs.Promises.{Looks, Keeps, Outside}
use Rattle.filter.specs.declared.Component.{Component}
use Rattle.filter.specs.Filter.{Tables, grid_of, area_of}

pub record Stored (c : Component) (t : Tables) (len : ℕ) : Type 0 where
  pub plane : c.plane ≤ 2
  pub proper : Proper (grid_of c)
  pub size : (c.sb4.0 ≡ 16) ⊎ (c.sb4.0 ≡ 32)
  pub some : 0 < c.w4.0
  pub width : c.w4.0 ≤ 4096
  pub height : c.h4.0 ≤ 4096
  pub masks-long : 640 * frame_records c.w4.0 c.h4.0 ≤ length t.masks
  pub levels-wide : c.w4.0 ≤ c.level_stride
  pub levels-long : 4 * c.level_stride * c.h4.0 ≤ length t.levels
  pub stored-wide : 4 * (records c.w4.0 * side (grid_of c) columns) ≤ c.stride
  pub stored-long : c.stride * (4 * (records c.h4.0 * side (grid_of c) rows)) ≤ len

pub record Fit (c : Component) (t : Tables) (d : Pass) (k : ℕ) : Type 0 where
  pub row : k * c.sb4.0 < c.h4.0
  pub levels : (x y : ℕ) → x < units_of (grid_of c) columns → y < units_of (grid_of c) rows → k * chroma_unit c.ss_ver c.sb4.0 ≤ y + pass_no d
      → y < (k + 1) * chroma_unit c.ss_ver c.sb4.0 → get_or t.levels (level_at c.level_stride x y (area_of c d)) 0 ≤ 63
  pub gap : (v : ℕ) → Looks (grid_of c) d c.sb4.0 k v → Keeps (grid_of c) t.masks d c.sb4.0 k v
  pub inside : ¬ Outside (grid_of c) t.masks d c.sb4.0 k

pub record Under (m : ℕ) (c : Component) (d : Pass) (k : ℕ) (s : List ℕ) : Type 0 where
  pub under : (x y : ℕ) → x < 4 * (records c.w4.0 * side (grid_of c) columns) → 4 * (k * chroma_unit c.ss_ver c.sb4.0) ≤ y + 8 * pass_no d
      → y < 4 * ((k + 1) * chroma_unit c.ss_ver c.sb4.0) → get_or s (y * c.stride + x) 0 < m
