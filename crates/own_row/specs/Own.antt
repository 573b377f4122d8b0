-- What document 01 lets a call that filters look at ("Numbers returned", "Gap rule", "One line of samples"), as what two lendings have in common.
--   SameBits G d sb4 k ..     the mask bits of row k: every class, in columns the row's halves of all stored units, in rows all halves of the row's units
--   OwnLine G sb4 k a y       the unit line y is of row k, or of the a above it
--   SameLevels G d sb4 k ..   the level bytes of an area at the units of row k and, for rows, of the unit line above it
--   OwnSample c n i           the sample at index i of plane n stands in the row's stored lines or, for rows, in the 8 above
--   SameSamples c n ..        these samples
--   SameTables c ..           the level bytes of this pass and the bits, of each plane that it filters
--   SameLent c m m'           and the samples
--   with_samples m s          the lent memory with other samples
use Rattle.std.specs.Prelude.{List, ◌≡◌, ℕ, ◌+◌, ◌*◌, ◌≤◌, ◌<◌, length, get_or}
use Rattle.bits.specs.Mark.{is_set}
use Rattle.plane.specs.Line.{Pass, columns, rows, pass_no}
use Rattle.plane.specs.Three.{Three}
use Rattle.units.specs.Frame.{stored}
use Rattle.units.specs.Memory.{level_at}
use Rattle.units.specs.Units.{chroma_unit}
use Rattle.edges.specs.Edges.{Grid, units_of, classes}
use Rattle.gap.specs.Numbers.{sb_units, half_bit}
use Rattle.gap.specs.Promises.{Across, Along}
use Rattle.checks.specs.declared.Call.{Call}
use Rattle.checks.specs.Call.{Lent, samples, call_pass, sb4, ss-hor, ss-ver, grid_of, stride_of, area_of, Filtered}

pub record SameBits (G : Grid) (d : Pass) (sb4 k : ℕ) (ms ms' : List ℕ) : Type 0 where
  pub same : (u class j b : ℕ) → Across G d sb4 k u → Along G d sb4 k j → class < classes G → b < 16
      → is_set ms (half_bit G d u class j b) ≡ is_set ms' (half_bit G d u class j b)

abbrev pub OwnLine : Grid → ℕ → ℕ → ℕ → ℕ → Type 0
OwnLine G sb4 k a y = (k * sb_units G sb4 ≤ y + a) × (y < (k + 1) * sb_units G sb4)

pub record SameLevels (G : Grid) (d : Pass) (sb4 k level-stride area : ℕ) (ls ls' : List ℕ) : Type 0 where
  pub same : (x y : ℕ) → x < units_of G columns → y < units_of G rows → OwnLine G sb4 k (pass_no d) y
      → get_or ls (level_at level-stride x y area) 0 ≡ get_or ls' (level_at level-stride x y area) 0

pub record OwnSample (c : Call) (n i : ℕ) : Type 0 where
  pub x : ℕ
  pub y : ℕ
  pub at : i ≡ y * stride_of c n + x
  pub right : x < stored c.width.0 (ss-hor c n)
  pub from : 4 * (c.row * chroma_unit (ss-ver c n) (sb4 c)) ≤ y + 8 * pass_no (call_pass c)
  pub to : y < 4 * ((c.row + 1) * chroma_unit (ss-ver c n) (sb4 c))

pub record SameSamples (c : Call) (n : ℕ) (s s' : List ℕ) : Type 0 where
  pub long : length s ≡ length s'
  pub same : (i : ℕ) → OwnSample c n i → get_or s i 0 ≡ get_or s' i 0

-- of level bytes ls and masks ms
pub record SameTables (c : Call) (ls ls' ms ms' : List ℕ) : Type 0 where
  pub levels-long : length ls ≡ length ls'
  pub masks-long : length ms ≡ length ms'
  pub levels : (n : ℕ) → Filtered c n → SameLevels (grid_of c n) (call_pass c) (sb4 c) c.row c.level_stride (area_of c n) ls ls'
  pub bits : (n : ℕ) → Filtered c n → SameBits (grid_of c n) (call_pass c) (sb4 c) c.row ms ms'

pub record SameLent (c : Call) (m m' : Lent) : Type 0 where
  pub tables : SameTables c m.levels m'.levels m.masks m'.masks
  pub samples : (n : ℕ) → Filtered c n → SameSamples c n (samples m n) (samples m' n)

abbrev pub with_samples : Lent → Three (List ℕ) → Lent
with_samples m s = record { luma = s.luma; u = s.u; v = s.v; levels = m.levels; masks = m.masks }
