-- What numbers 11 and 12 say of one plane in superblock row k, in document 01's words.
--   Nowhere        no boundary between the start and the end of a line
--   Keeps          a line keeps the gap rule of neighbours, as a call for row k looks at it
--   Looks          the lines that it looks at
--   Gap            number 11: a line of the row breaks the gap rule of neighbours
--   Across, Along  the units and the halves that number 12 looks at
--   Outside        number 12: a bit of this row that is set, and outside the bits its half may hold or outside the frame
--   Promises       the tests are true exactly when these hold; and the bits that number 12 looks at are those of edges
use Rattle.std.specs.Prelude.{◌≡◌, true, false, List, ◌⊎◌, ℕ, ◌+◌, ◌*◌, ◌/◌, ◌≤◌, ◌<◌}
use Rattle.loops.specs.Exactly.{Reflects}
use Rattle.bits.specs.Mark.{is_set}
use Rattle.plane.specs.Gap.{GapRule}
use Rattle.plane.specs.Line.{Pass, columns, rows, other}
use Rattle.units.specs.Frame.{records}
use Rattle.edges.specs.Edges.{Grid, units_of, half, classes, edge_bit, edge, Proper}
use Rattle.gap.specs.Numbers.{sb_units, stored_units, part, gap, half_bit, outside}

abbrev pub Nowhere : ℕ → Type 0
Nowhere u = ⊥

abbrev pub Keeps : Grid → List ℕ → Pass → ℕ → ℕ → ℕ → Type 0
Keeps G ms columns sb4 k v = GapRule (λ u. edge G ms columns (u, v)) Nowhere (stored_units G)
Keeps G ms rows sb4 k v = GapRule (part (k * sb_units G sb4) (sb_units G sb4) (λ u. edge G ms rows (u, v))) Nowhere (sb_units G sb4)

abbrev pub Looks : Grid → Pass → ℕ → ℕ → ℕ → Type 0
Looks G columns sb4 k v = (k * sb_units G sb4 ≤ v) × (v < (k + 1) * sb_units G sb4) × (v < units_of G rows)
Looks G rows sb4 k v = v < units_of G columns

pub record Gap (G : Grid) (ms : List ℕ) (d : Pass) (sb4 k : ℕ) : Type 0 where
  pub line : ℕ
  pub looks : Looks G d sb4 k line
  pub breaks : ¬ Keeps G ms d sb4 k line

abbrev pub Across : Grid → Pass → ℕ → ℕ → ℕ → Type 0
Across G columns sb4 k u = u < stored_units G
Across G rows sb4 k u = (k * sb_units G sb4 ≤ u) × (u < (k + 1) * sb_units G sb4)

abbrev pub Along : Grid → Pass → ℕ → ℕ → ℕ → Type 0
Along G columns sb4 k j = (k * (sb4 / 16) ≤ j) × (j < (k + 1) * (sb4 / 16))
Along G rows sb4 k j = j < records G.w4 * 2

pub record Outside (G : Grid) (ms : List ℕ) (d : Pass) (sb4 k : ℕ) : Type 0 where
  pub unit : ℕ
  pub class : ℕ
  pub half_no : ℕ
  pub bit : ℕ
  pub across : Across G d sb4 k unit
  pub along : Along G d sb4 k half_no
  pub a-class : class < classes G
  pub a-bit : bit < 16
  pub set : is_set ms (half_bit G d unit class half_no bit) ≡ true
  pub refused : (half G d ≤ bit) ⊎ ((units_of G d ≤ unit) ⊎ (units_of G (other d) ≤ half_no * half G d + bit))

pub record Promises : Type 0 where
  pub eleven : (G : Grid) (ms : List ℕ) (d : Pass) (sb4 k : ℕ) → G.ss-hor ≤ 1 → Reflects (gap G ms d sb4 k) (Gap G ms d sb4 k)
  -- and where 11 is not given each of the lines keeps the rule
  pub kept : (G : Grid) (ms : List ℕ) (d : Pass) (sb4 k v : ℕ) → G.ss-hor ≤ 1 → gap G ms d sb4 k ≡ false → Looks G d sb4 k v → Keeps G ms d sb4 k v
  pub twelve : (G : Grid) (ms : List ℕ) (d : Pass) (sb4 k : ℕ) → Reflects (outside G ms d sb4 k) (Outside G ms d sb4 k)
  -- an edge is a bit of a half
  pub bits : (G : Grid) → Proper G → (d : Pass) (u c j b : ℕ) → b < half G d → edge_bit G d (u, j * half G d + b) c ≡ half_bit G d u c j b
