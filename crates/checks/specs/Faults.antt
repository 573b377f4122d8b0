-- What the numbers refuse, in document 01's words.
--   LevelFault        2
--   DepthFault        3
--   ShapeFault        4
--   LengthFault       7
--   InFrame           the superblock row lies in the frame: its first unit does
--   LevelByteFault    8
--   SampleFault       of one plane, 9, and PlaneFault, of one that is filtered
--   RowFault          10
--   GapFault          11
--   MaskFault         12
use Rattle.std.specs.Prelude.{List, ◌⊎◌, ◌≡◌, ℕ, ◌-◌, ◌*◌, ◌^◌, ◌<◌, ◌≤◌, length}
use Rattle.units.specs.Units.{chroma_unit}
use Rattle.units.specs.Layout.{Layout}
use Rattle.units.specs.Frame.{frame_records, stored}
use Rattle.plane.specs.Line.{columns, rows, pass_no}
use Rattle.edges.specs.Edges.{units_of}
use Rattle.scans.specs.Promises.{LevelHigh, SampleHigh}
use Rattle.gap.specs.Numbers.{sb_units}
use Rattle.gap.specs.Promises.{Gap, Outside}
use Rattle.checks.specs.declared.Call.{Call}
use Rattle.checks.specs.Call.{Lent, samples, call_pass, w4, h4, sb4, ss-hor, ss-ver, grid_of, stride_of, area_of, Filtered}

pub data LevelFault (c : Call) : Type 0 where
  u-above : 63 < c.level_u → LevelFault c
  v_above : 63 < c.level_v → LevelFault c
  u-at-400 : c.layout ≡ 400 → ¬ (c.level_u ≡ 0) → LevelFault c
  v-at-400 : c.layout ≡ 400 → ¬ (c.level_v ≡ 0) → LevelFault c

abbrev pub DepthFault : Call → Type 0
DepthFault c = ¬ (((c.depth ≡ 8) ⊎ (c.depth ≡ 10)) ⊎ (c.depth ≡ 12))

pub data ShapeFault (c : Call) : Type 0 where
  layout-other : ¬ Layout c.layout → ShapeFault c
  size-outside : ¬ (((1 ≤ c.width.0) × (c.width.0 ≤ 16384)) × ((1 ≤ c.height.0) × (c.height.0 ≤ 16384))) → ShapeFault c
  superblock-other : ¬ ((c.superblock ≡ 64) ⊎ (c.superblock ≡ 128)) → ShapeFault c

pub data LengthFault (c : Call) (m : Lent) : Type 0 where
  stride-below : c.level_stride < w4 c → LengthFault c m
  levels-short : length m.levels < 4 * c.level_stride * h4 c → LengthFault c m
  masks-short : length m.masks < 640 * frame_records (w4 c) (h4 c) → LengthFault c m

abbrev pub InFrame : Call → Type 0
InFrame c = c.row * sb4 c < h4 c

pub record LevelByteFault (c : Call) (m : Lent) : Type 0 where
  pub inside : InFrame c
  pub plane : ℕ
  pub filtered : Filtered c plane
  pub too-high : LevelHigh m.levels c.level_stride (area_of c plane) (units_of (grid_of c plane) columns) (units_of (grid_of c plane) rows)
      (sb_units (grid_of c plane) (sb4 c)) (pass_no (call_pass c)) c.row

pub data SampleFault (c : Call) (plane : ℕ) (s : List ℕ) : Type 0 where
  stride-short : stride_of c plane < stored c.width.0 (ss-hor c plane) → SampleFault c plane s
  too_short : length s < stride_of c plane * stored c.height.0 (ss-ver c plane) → SampleFault c plane s
  too-high : InFrame c
      → SampleHigh s (stride_of c plane) (2 ^ c.depth - 1) (stored c.width.0 (ss-hor c plane)) (chroma_unit (ss-ver c plane) (sb4 c)) (8 * pass_no (call_pass c)) c.row
      → SampleFault c plane s

pub record PlaneFault (c : Call) (m : Lent) : Type 0 where
  pub plane : ℕ
  pub filtered : Filtered c plane
  pub fault : SampleFault c plane (samples m plane)

abbrev pub RowFault : Call → Type 0
RowFault c = h4 c ≤ c.row * sb4 c

pub record GapFault (c : Call) (m : Lent) : Type 0 where
  pub plane : ℕ
  pub filtered : Filtered c plane
  pub broken : Gap (grid_of c plane) m.masks (call_pass c) (sb4 c) c.row

pub record MaskFault (c : Call) (m : Lent) : Type 0 where
  pub plane : ℕ
  pub filtered : Filtered c plane
  pub bit : Outside (grid_of c plane) m.masks (call_pass c) (sb4 c) c.row
