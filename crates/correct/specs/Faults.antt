-- What the numbers 4, 6, 7 and 10 refuse, in document 01's words.
--   ShapeFault       4
--   Corrects         something is corrected: superblock row and tile start lie in the frame, and the tile does not begin at its unit 0
--   ContextsFault    6; a context's own fault is `ContextFault` of `block`: too few bytes, or a value above its range
--   LengthFault      7
--   OutsideFault     10
use Rattle.std.specs.Prelude.{true, false, List, ◌⊎◌, ◌≡◌, ℕ, ◌*◌, ◌<◌, ◌≤◌}
use Rattle.units.specs.Layout.{Layout}
use Rattle.units.specs.Frame.{frame_records, superblocks}
use Rattle.block.specs.Faults.{ContextFault}
use Rattle.correct.specs.declared.Start.{Start}
use Rattle.correct.specs.Start.{w4, h4, sb4, begin}
use Rattle.correct.specs.Tests.{units_along}

pub data ShapeFault (t : Start) : Type 0 where
  layout-other : ¬ Layout t.layout → ShapeFault t
  size-outside : ¬ (((1 ≤ t.width.0) × (t.width.0 ≤ 16384)) × ((1 ≤ t.height.0) × (t.height.0 ≤ 16384))) → ShapeFault t
  superblock-other : ¬ ((t.superblock ≡ 64) ⊎ (t.superblock ≡ 128)) → ShapeFault t

pub record Corrects (t : Start) : Type 0 where
  pub row_in : t.row < superblocks (h4 t) (sb4 t)
  pub start-in : t.start < superblocks (w4 t) (sb4 t)
  pub not_first : 0 < begin t

pub data ContextsFault (t : Start) (context context-uv : List ℕ) : Type 0 where
  luma : Corrects t → ContextFault (units_along t true) 2 context → ContextsFault t context context-uv
  chroma : ¬ (t.layout ≡ 400) → Corrects t → ContextFault (units_along t false) 1 context-uv → ContextsFault t context context-uv

abbrev pub LengthFault : Start → ℕ → Type 0
LengthFault t masks = masks < 640 * frame_records (w4 t) (h4 t)

pub data OutsideFault (t : Start) : Type 0 where
  row-outside : superblocks (h4 t) (sb4 t) ≤ t.row → OutsideFault t
  start_outside : superblocks (w4 t) (sb4 t) ≤ t.start → OutsideFault t
