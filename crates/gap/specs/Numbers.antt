-- Numbers 11 and 12 of one plane in superblock row k, as tests. sb4 is the side of a superblock in luma units, 16 or 32.
--   sb_units         the lines of units of a superblock row
--   stored_units     the units to the right up to the 128-aligned end
--   part             the n edges of a line from `first` on
--   gap              number 11: some line of the row breaks the gap rule. In columns lines lie along the whole width; in rows they go from the
--                   row's boundary to the next superblock boundary, not cut at the frame's end
--   half_bit        bit b of half j of a unit across the pass, in the masks; halves are counted along the whole frame
--   fits            what number 12 asks of it: a bit that its half may hold, at a unit of the frame
--   bad_half        a bit of this half is set, of any class, and does not fit
--   outside         number 12: in columns in the halves of this row, of all stored units; in rows in all halves, of the units of this row
--   Found           the answers to both
--   RecordFound     those of rows in record rec of the row alone
use Rattle.std.specs.Prelude.{◌≡◌, Bool, not, ◌&&◌, cond, List, ℕ, ◌+◌, ◌-◌, ◌*◌, ◌/◌, ◌%◌, min, ltb}
use Rattle.std.proofs.Math.Option.{Option, none}
use Rattle.loops.specs.Any.{any_below}
use Rattle.bits.specs.Mark.{is_set}
use Rattle.plane.specs.Line.{Pass, columns, rows, other}
use Rattle.units.specs.Frame.{records}
use Rattle.units.specs.Masks.{in_record}
use Rattle.units.specs.Units.{chroma_unit}
use Rattle.gap.specs.declared.Both.{Both}
use Rattle.edges.specs.Edges.{Grid, units_of, side, half, record_at, classes, word_in, edge}
use Rattle.gap.specs.Line.{line_broken}

abbrev pub sb_units : Grid → ℕ → ℕ
sb_units G sb4 = chroma_unit G.ss-ver sb4

abbrev pub stored_units : Grid → ℕ
stored_units G = records G.w4 * side G columns

unfoldable pub part : ℕ → ℕ → (ℕ → Option ℕ) → ℕ → Option ℕ
part first n line u = cond (ltb u n) (line (first + u)) none

unfoldable pub gap : Grid → List ℕ → Pass → ℕ → ℕ → Bool
gap G ms columns sb4 k =
    any_below (min (units_of G rows) ((k + 1) * sb_units G sb4) - k * sb_units G sb4)
    (λ i. line_broken (λ u. edge G ms columns (u, k * sb_units G sb4 + i)) (stored_units G))
gap G ms rows sb4 k =
    any_below (units_of G columns) (λ x. line_broken (part (k * sb_units G sb4) (sb_units G sb4) (λ y. edge G ms rows (y, x))) (sb_units G sb4))

unfoldable pub half_bit : Grid → Pass → ℕ → ℕ → ℕ → ℕ → ℕ
half_bit G d u class j b = 10240 * record_at G d (u / side G d) (j / 2) + (16 * word_in G d (u % side G d) class (j % 2) + b)

abbrev pub fits : Grid → Pass → ℕ → ℕ → ℕ → Bool
fits G d u j b = ltb b (half G d) && (ltb u (units_of G d) && ltb (j * half G d + b) (units_of G (other d)))

unfoldable pub bad_half : Grid → List ℕ → Pass → ℕ → ℕ → Bool
bad_half G ms d u j = any_below 16 (λ b. any_below (classes G) (λ c. is_set ms (half_bit G d u c j b)) && not (fits G d u j b))

unfoldable pub outside : Grid → List ℕ → Pass → ℕ → ℕ → Bool
outside G ms columns sb4 k = any_below (stored_units G) (λ u. any_below (sb4 / 16) (λ i. bad_half G ms columns u (k * (sb4 / 16) + i)))
outside G ms rows sb4 k = any_below (sb_units G sb4) (λ i. any_below (records G.w4 * 2) (λ j. bad_half G ms rows (k * sb_units G sb4 + i) j))

pub record Found (G : Grid) (ms : List ℕ) (d : Pass) (sb4 k : ℕ) (r : Both) : Type 0 where
  pub eleven : r.gap ≡ gap G ms d sb4 k
  pub twelve : r.out ≡ outside G ms d sb4 k

pub record RecordFound (G : Grid) (ms : List ℕ) (sb4 k rec : ℕ) (r : Both) : Type 0 where
  pub eleven : r.gap
      ≡ any_below (in_record (side G columns) (units_of G columns) rec)
      (λ i. line_broken (part (k * sb_units G sb4) (sb_units G sb4) (λ y. edge G ms rows (y, rec * side G columns + i))) (sb_units G sb4))
  pub twelve : r.out ≡ any_below (sb_units G sb4) (λ i. any_below 2 (λ h. bad_half G ms rows (k * sb_units G sb4 + i) (rec * 2 + h)))
