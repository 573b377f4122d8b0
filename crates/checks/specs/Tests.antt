-- The tests of the numbers of a call that filters, in the order in which they are asked. Those of 8, 9, 11 and 12 look at the planes it filters.
--   any_plane c test        some filtered plane passes a test
--   level_bad               2: a chroma base level above 63, or other than 0 at 4:0:0
--   depth_bad               3
--   shape_bad               4: layout, frame size, superblock size
--   length_bad              7: levels, their stride, masks
--   inside                  the superblock row lies in the frame; one that does not has no units and no lines
--   levels_bad              8: a level byte above 63 of this pass, at a unit of the row or, for rows, of the unit line above it
--   plane_bad, planes_bad   9: stride, length, or a sample above the depth's maximum among the row's stored lines and, for rows, the 8 above
--   gap_bad                 11
--   mask_bad                12
--   given, marked           the number of the first of 2 to 8, and of 10 to 12
--   number                  of all
use Rattle.std.specs.Prelude.{Bool, cond, not, ◌&&◌, ◌||◌, List, ℕ, ◌-◌, ◌*◌, ◌^◌, eqb, ltb, length}
use Rattle.units.specs.Units.{chroma_unit}
use Rattle.units.specs.Layout.{layout_ok, has_chroma}
use Rattle.units.specs.Frame.{frame_ok, superblock_ok, superblocks, stored}
use Rattle.units.specs.Memory.{levels_ok, plane_ok, masks_ok}
use Rattle.edges.specs.Edges.{units_of}
use Rattle.plane.specs.Line.{columns, rows, pass_no}
use Rattle.scans.specs.Scan.{levels_high, samples_high}
use Rattle.gap.specs.Numbers.{sb_units, gap, outside}
use Rattle.checks.specs.declared.Call.{Call}
use Rattle.checks.specs.Call.{Lent, samples, call_pass, w4, h4, sb4, ss-hor, ss-ver, grid_of, stride_of, area_of, chroma_on}

abbrev pub any_plane : Call → (ℕ → Bool) → Bool
any_plane c test = test 0 || (chroma_on c && (test 1 || test 2))

abbrev pub level_bad : Call → Bool
level_bad c =
    (ltb 63 c.level_u || ltb 63 c.level_v)
    || (not (has_chroma c.layout) && (not (eqb c.level_u 0) || not (eqb c.level_v 0)))

abbrev pub depth_bad : Call → Bool
depth_bad c = not ((eqb c.depth 8 || eqb c.depth 10) || eqb c.depth 12)

abbrev pub shape_bad : Call → Bool
shape_bad c = (not (layout_ok c.layout) || not (frame_ok c.width.0 c.height.0)) || not (superblock_ok c.superblock)

abbrev pub length_bad : Call → ℕ → ℕ → Bool
length_bad c levels masks = not (levels_ok levels c.level_stride (w4 c) (h4 c)) || not (masks_ok masks (w4 c) (h4 c))

abbrev pub inside : Call → Bool
inside c = ltb c.row (superblocks (h4 c) (sb4 c))

unfoldable pub levels_bad : Call → List ℕ → Bool
levels_bad c ls =
    inside c
    && any_plane c
    (λ plane. levels_high ls c.level_stride (area_of c plane) (units_of (grid_of c plane) columns) (units_of (grid_of c plane) rows) (sb_units (grid_of c plane) (sb4 c))
    (pass_no (call_pass c)) c.row)

unfoldable pub plane_bad : Call → ℕ → List ℕ → Bool
plane_bad c plane s =
    not (plane_ok (length s) (stride_of c plane) (stored c.width.0 (ss-hor c plane)) (stored c.height.0 (ss-ver c plane)))
    || (inside c
    && samples_high s (stride_of c plane) (2 ^ c.depth - 1) (stored c.width.0 (ss-hor c plane)) (chroma_unit (ss-ver c plane) (sb4 c)) (8 * pass_no (call_pass c)) c.row)

abbrev pub planes_bad : Call → Lent → Bool
planes_bad c m = any_plane c (λ plane. plane_bad c plane (samples m plane))

abbrev pub gap_bad : Call → List ℕ → Bool
gap_bad c ms = any_plane c (λ plane. gap (grid_of c plane) ms (call_pass c) (sb4 c) c.row)

abbrev pub mask_bad : Call → List ℕ → Bool
mask_bad c ms = any_plane c (λ plane. outside (grid_of c plane) ms (call_pass c) (sb4 c) c.row)

abbrev pub given : Call → List ℕ → ℕ → ℕ
given c ls masks =
    cond (level_bad c) 2 (cond (depth_bad c) 3 (cond (shape_bad c) 4 (cond (length_bad c (length ls) masks) 7 (cond (levels_bad c ls) 8 0))))

abbrev pub marked : Call → List ℕ → ℕ
marked c ms = cond (not (inside c)) 10 (cond (gap_bad c ms) 11 (cond (mask_bad c ms) 12 0))

unfoldable pub number : Call → Lent → ℕ
number c m =
    cond (level_bad c) 2
    (cond (depth_bad c) 3
    (cond (shape_bad c) 4
    (cond (length_bad c (length m.levels) (length m.masks)) 7
    (cond (levels_bad c m.levels) 8 (cond (planes_bad c m) 9 (marked c m.masks))))))
