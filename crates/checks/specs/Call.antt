-- A call that filters one pass of superblock row `row`: its frame and the planes of it. A plane is 0 for luma, 1 for U, 2 for V.
--   Lent                        the lent memory
--   lent                        of these
--   samples m plane             the samples of a plane
--   call_pass c                 columns or rows
--   w4, h4, sb4                 the frame and its superblocks, in luma units
--   ss-hor, ss-ver c plane      the subsampling of a plane
--   grid_of c plane             its units
--   stride_of c plane           its stride
--   area_of c plane             its level byte in this pass
--   chroma_on c                 chroma is filtered: there is chroma, and not both of its base levels are 0
--   Filtered c plane            a plane is filtered
--   Shaped c                    what number 4 leaves
--   Roomy c levels masks        what number 7 leaves, of these lengths
use Rattle.std.specs.Prelude.{Bool, cond, not, ◌&&◌, List, ◌⊎◌, ◌≡◌, ℕ, zero, suc, ◌*◌, ◌≤◌, eqb}
use Rattle.plane.specs.Line.{Pass, pass_of, pass_no}
use Rattle.units.specs.Units.{units_of}
use Rattle.units.specs.Layout.{has_chroma, ss_hor, ss_ver}
use Rattle.units.specs.Frame.{frame_records, superblock_units}
use Rattle.edges.specs.Edges as edges
use Rattle.edges.specs.Edges.{Grid}
use Rattle.checks.specs.declared.Call.{Call}

pub record Lent : Type 0 where
  pub luma : List ℕ
  pub u : List ℕ
  pub v : List ℕ
  pub levels : List ℕ
  pub masks : List ℕ

abbrev pub lent : List ℕ → List ℕ → List ℕ → List ℕ → List ℕ → Lent
lent luma u v levels masks = record { luma = luma; u = u; v = v; levels = levels; masks = masks }

abbrev pub samples : Lent → ℕ → List ℕ
samples m zero = m.luma
samples m (suc zero) = m.u
samples m (suc (suc plane)) = m.v

abbrev pub call_pass : Call → Pass
call_pass c = pass_of c.rowwise

abbrev pub w4 : Call → ℕ
w4 c = units_of c.width.0

abbrev pub h4 : Call → ℕ
h4 c = units_of c.height.0

abbrev pub sb4 : Call → ℕ
sb4 c = superblock_units c.superblock

abbrev pub ss-hor : Call → ℕ → ℕ
ss-hor c plane = cond (eqb plane 0) 0 (ss_hor c.layout)

abbrev pub ss-ver : Call → ℕ → ℕ
ss-ver c plane = cond (eqb plane 0) 0 (ss_ver c.layout)

abbrev pub grid_of : Call → ℕ → Grid
grid_of c plane = edges.grid_of (eqb plane 0) (ss-hor c plane) (ss-ver c plane) (w4 c) (h4 c)

abbrev pub stride_of : Call → ℕ → ℕ
stride_of c plane = cond (eqb plane 0) c.luma_stride c.chroma_stride

abbrev pub area_of : Call → ℕ → ℕ
area_of c plane = cond (eqb plane 0) (pass_no (call_pass c)) (suc plane)

abbrev pub chroma_on : Call → Bool
chroma_on c = has_chroma c.layout && not (eqb c.level_u 0 && eqb c.level_v 0)

-- in 01's words
pub data Filtered (c : Call) : ℕ → Type 0 where
  luma : Filtered c 0
  chroma-u : ¬ (c.layout ≡ 400) → ¬ ((c.level_u ≡ 0) × (c.level_v ≡ 0)) → Filtered c 1
  chroma-v : ¬ (c.layout ≡ 400) → ¬ ((c.level_u ≡ 0) × (c.level_v ≡ 0)) → Filtered c 2

pub record Shaped (c : Call) : Type 0 where
  pub width : (1 ≤ c.width.0) × (c.width.0 ≤ 16384)
  pub height : (1 ≤ c.height.0) × (c.height.0 ≤ 16384)
  pub size : (c.superblock ≡ 64) ⊎ (c.superblock ≡ 128)

pub record Roomy (c : Call) (levels masks : ℕ) : Type 0 where
  pub width : w4 c ≤ c.level_stride
  pub levels-long : 4 * c.level_stride * h4 c ≤ levels
  pub masks-long : 640 * frame_records (w4 c) (h4 c) ≤ masks
