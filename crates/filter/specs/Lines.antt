-- One line of units of superblock row k and record rec as it is walked, the a-th across the pass.
--   left_of, top_of           its first unit, to the right and down
--   unit_at                   its place across the pass
--   across_of, units_across   how many such lines there are, and how many of them lie in the frame
--   first_unit                the first of them that is walked: none is at the frame's start
--   unit_in                   its unit across the pass in the masks of the record
--   mask_at                   where its masks start
--   start_half, halves_of     the halves of the row in the record: the first of them, and how many
--   halves_at                 the word of n halves, h units each, from the first one on; the masks of a class start at `at`
--   class_at                  that of a class; there is no class 2 in chroma
--   line_mask                 the mask of a class of the line
--   along_step, back_step     from a level byte to the next, and back to the unit before the edge
--   line_in                   the line, as `walk` takes it
--   record_sweep              what is done along the lines of a record
--   Counted                   what the numbers of a line ask: no sum wraps, and the masks hold the record
--   Inner                     the line lies in the frame, and not at its start
use Rattle.std.specs.Prelude.{◌≡◌, Bool, cond, List, ◌⊎◌, ℕ, ◌+◌, ◌*◌, ◌/◌, ◌^◌, ◌≤◌, ◌<◌, eqb, ltb, get_or}
use Rattle.loops.specs.Run.{up_to}
use Rattle.plane.specs.Line.{Pass, columns, rows, line_step, sample_step}
use Rattle.plane.specs.Plane.{Plane}
use Rattle.units.specs.Frame.{records}
use Rattle.units.specs.Masks.{unit_words, pass_start, in_record, record_row, first_line, first_half, row_units, two_halves}
use Rattle.units.specs.Memory.{level_at}
use Rattle.units.specs.Units.{chroma_unit}
use Rattle.edges.specs.Edges.{Proper, units_of, side, half, classes}
use Rattle.walk.specs.declared.UnitLine.{UnitLine}
use Rattle.filter.specs.declared.Component.{Component}
use Rattle.filter.specs.Filter.{grid_of, area_of, across, line_of}

abbrev pub left_of : Component → Pass → ℕ → ℕ → ℕ
left_of c columns rec a = rec * side (grid_of c) columns + a
left_of c rows rec a = rec * side (grid_of c) columns

abbrev pub top_of : Component → Pass → ℕ → ℕ → ℕ
top_of c columns k a = k * chroma_unit c.ss_ver c.sb4.0
top_of c rows k a = k * chroma_unit c.ss_ver c.sb4.0 + a

abbrev pub unit_at : Component → Pass → ℕ → ℕ → ℕ → ℕ
unit_at c columns k rec a = left_of c columns rec a
unit_at c rows k rec a = top_of c rows k a

abbrev pub across_of : Component → Pass → ℕ
across_of c columns = side (grid_of c) columns
across_of c rows = chroma_unit c.ss_ver c.sb4.0

abbrev pub units_across : Component → Pass → ℕ → ℕ → ℕ
units_across c columns k rec = in_record (side (grid_of c) columns) (units_of (grid_of c) columns) rec
units_across c rows k rec = row_units c.ss_ver c.h4.0 c.sb4.0 k

abbrev pub first_unit : Pass → ℕ → ℕ → ℕ
first_unit columns k rec = cond (eqb rec 0) 1 0
first_unit rows k rec = cond (eqb k 0) 1 0

abbrev pub unit_in : Component → Pass → ℕ → ℕ → ℕ
unit_in c columns k a = a
unit_in c rows k a = first_line c.ss_ver c.sb4.0 k + a

unfoldable pub mask_at : Component → Pass → ℕ → ℕ → ℕ → ℕ
mask_at c d k rec a =
    640 * (record_row c.sb4.0 k * records c.w4.0 + rec) + pass_start (eqb c.plane 0) d + unit_words (eqb c.plane 0) * unit_in c d k a

abbrev pub start_half : Component → Pass → ℕ → ℕ
start_half c columns k = first_half c.sb4.0 k
start_half c rows k = 0

abbrev pub halves_of : Component → Pass → ℕ
halves_of c columns = c.sb4.0 / 16
halves_of c rows = 2

unfoldable pub halves_at : List ℕ → ℕ → ℕ → ℕ → ℕ → ℕ
halves_at ms at first n h = cond (eqb n 2) (two_halves (get_or ms at 0) (get_or ms (at + 1) 0) h) (get_or ms (at + first) 0)

unfoldable pub class_at : List ℕ → Bool → ℕ → ℕ → ℕ → ℕ → ℕ → ℕ
class_at ms luma at first n h class = cond (ltb class (cond luma 3 2)) (halves_at ms (at + 2 * class) first n h) 0

abbrev pub line_mask : Component → List ℕ → Pass → ℕ → ℕ → ℕ → ℕ → ℕ
line_mask c ms d k rec a class = class_at ms (eqb c.plane 0) (mask_at c d k rec a) (start_half c d k) (halves_of c d) (half (grid_of c) d) class

abbrev pub along_step : Component → Pass → ℕ
along_step c columns = 4 * c.level_stride
along_step c rows = 4

abbrev pub back_step : Component → Pass → ℕ
back_step c columns = 4
back_step c rows = 4 * c.level_stride

abbrev pub line_in : Component → List ℕ → Pass → ℕ → ℕ → ℕ → UnitLine
line_in c ms d k rec a =
    record {
      q = 4 * (top_of c d k a * c.stride + left_of c d rec a);
      line_step = line_step d c.stride;
      sample_step = sample_step d c.stride;
      m0 = line_mask c ms d k rec a 0;
      m1 = line_mask c ms d k rec a 1;
      m2 = line_mask c ms d k rec a 2;
      classes = classes (grid_of c);
      at = level_at c.level_stride (left_of c d rec a) (top_of c d k a) (area_of c d);
      along = along_step c d;
      back = back_step c d;
    }

-- the lines of a record
unfoldable pub record_sweep : Plane → Pass → ℕ → ℕ → List ℕ → List ℕ
record_sweep P d k rec = up_to (line_of P d k rec) (across P d)

pub record Counted (c : Component) (d : Pass) (k rec a len : ℕ) : Type 0 where
  pub plane : c.plane ≤ 2
  pub proper : Proper (grid_of c)
  pub size : (c.sb4.0 ≡ 16) ⊎ (c.sb4.0 ≡ 32)
  pub width : c.w4.0 ≤ 4096
  pub row : k * c.sb4.0 < 4096
  pub rec-in : rec < records c.w4.0
  pub unit : a < across_of c d
  pub masks : 640 * (record_row c.sb4.0 k * records c.w4.0 + rec) + 640 ≤ len
  pub sample : 4 * (top_of c d k a * c.stride + left_of c d rec a) < 2 ^ 64
  pub level : level_at c.level_stride (left_of c d rec a) (top_of c d k a) (area_of c d) < 2 ^ 64
  pub level_stride : 4 * c.level_stride < 2 ^ 64

pub record Inner (c : Component) (d : Pass) (k rec a : ℕ) : Type 0 where
  pub rec-in : rec < records c.w4.0
  pub unit : a < units_across c d k rec
  pub first : 0 < unit_at c d k rec a
