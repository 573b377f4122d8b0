-- The edges that the masks hold are those that were drawn, with their classes: each unit of the frame is looked at.
use mathlib.Core.Path.{◌≡◌, refl}
use mathlib.Core.Bool.{true, false}
use mathlib.Core.List.{List, map}
use mathlib.Core.Option.{some}
use Prim.Native.Nat.{ℕ, zero, suc, ◌+◌, ◌-◌, ◌*◌, ◌≤◌, ◌<◌}
use native.Mathlib.Omega.{arith}
use Rattle.loops.specs.Any.{any_below}
use Rattle.loops.specs.Run.{All}
use Rattle.loops.specs.Table.{Each}
use Rattle.loops.proofs.Tables.{each_at}
use Rattle.bits.specs.Bit.{has_bit}
use Rattle.bits.specs.Mark.{is_set, mark, marks}
use Rattle.plane.specs.Line.{Pass, columns, rows, Piece, other}
use Rattle.plane.specs.Gap.{Neighbours, Allowed}
use Rattle.plane.specs.Plane.{class, IsPiece, InRow, Boundary, end}
use Rattle.plane.proofs.Pieces.{inner-some}
use Rattle.units.specs.Masks.{luma_bit, chroma_bit}
use Rattle.edges.specs.Edges.{Grid, units_of, edge, edge_bit}
use Rattle.gap.specs.Line.{at_least}
use Rattle.gap.proofs.NumbersMean.{edge_in}
use Rattle.filter.specs.Filter.{grid_of}
use Rattle.apply.specs.Apply.{component_of}
use Rattle.order.specs.Demand3.{OrderIn}
use Rattle.example_frame.specs.Data.{head, edges_of, bits, masks, plane_of}
use Rattle.example_frame.proofs.BoundaryTest.{near, allowed}
use Rattle.example_frame.proofs.Orders.{listed, order}

abbrev grid : ℕ → Grid
grid n = grid_of (component_of head n)

abbrev pub Drawn : Pass → ℕ → ℕ → Type 0
Drawn d n k = All (λ e. class (plane_of n) d e.0 ≡ some e.1) (edges_of n d k)

-- in the three planes and two superblock rows
abbrev pub Everywhere : (ℕ → ℕ → Type 0) → Type 0
Everywhere Q = Each 3 (λ n. Each 2 (Q n))

pub everywhere : (Q : ℕ → ℕ → Type 0) → Everywhere Q → (n : ℕ) → n < 3 → (k : ℕ) → k < 2 → Q n k
everywhere Q a n h k g = each_at 2 (Q n) (each_at 3 (λ n. Each 2 (Q n)) a n h) k g

pub drawn : (d : Pass) → Everywhere (Drawn d)
unfolding masks bits marks mark edge edge_bit is_set has_bit luma_bit chroma_bit
drawn columns = (((refl, tt), ((refl, tt), tt)), (((refl, tt), ((refl, tt), tt)), (((refl, tt), ((refl, tt), tt)), tt)))
drawn rows = (
  ((refl, (refl, tt)), ((refl, (refl, tt)), tt)),
  (((refl, (refl, tt)), ((refl, (refl, tt)), tt)), (((refl, (refl, (refl, tt))), ((refl, (refl, tt)), tt)), tt)),
)

-- a column edge in a superblock row
abbrev pub Column : ℕ → ℕ → Type 0
Column n k = (p : Piece) × InRow (plane_of n) columns k p × IsPiece (plane_of n) columns p

column-at : (n k : ℕ) (p : Piece) → k * (plane_of n).sb ≤ p.1 → p.1 < suc k * (plane_of n).sb → class (plane_of n) columns p ≡ some 0 → Column n k
column-at n k p a b c = (p, record { from = a; to = b }, record { cls = 0; is = c })

pub a-column : Everywhere Column
a-column =
    let d = drawn columns in (
      (column-at 2 1 (1, 8) (omega arith) (omega arith) d.0.0.0, (column-at 2 0 (1, 7) (omega arith) (omega arith) d.0.1.0.0, tt)),
      (
        (column-at 1 1 (1, 8) (omega arith) (omega arith) d.1.0.0.0, (column-at 1 0 (1, 7) (omega arith) (omega arith) d.1.0.1.0.0, tt)),
        ((column-at 0 1 (1, 16) (omega arith) (omega arith) d.1.1.0.0.0, (column-at 0 0 (1, 15) (omega arith) (omega arith) d.1.1.0.1.0.0, tt)), tt),
      ),
    )

-- ---- and no others

abbrev pub pieces_of : ℕ → Pass → ℕ → List Piece
pieces_of n d k = map (λ e. e.0) (edges_of n d k)

abbrev Listed : Pass → ℕ → ℕ → Type 0
Listed d n k = listed (plane_of n) d k (units_of (grid n) d) (units_of (grid n) (other d)) (pieces_of n d k) ≡ true

all_listed : (d : Pass) → Everywhere (Listed d)
unfolding any_below masks bits marks mark edge edge_bit is_set has_bit luma_bit chroma_bit
all_listed columns = ((refl, (refl, tt)), ((refl, (refl, tt)), ((refl, (refl, tt)), tt)))
all_listed rows = ((refl, (refl, tt)), ((refl, (refl, tt)), ((refl, (refl, tt)), tt)))

in_frame : (n : ℕ) (d : Pass) (p : Piece) → IsPiece (plane_of n) d p → (p.0 < units_of (grid n) d) × (p.1 < units_of (grid n) (other d))
in_frame n d p i = edge_in (grid n) masks d p i.cls (inner-some p.0 _ _ i.is).1

pub orders : (n : ℕ) → n < 3 → (d : Pass) (k : ℕ) → k < 2 → OrderIn (plane_of n) d k (pieces_of n d k)
orders n h d k g =
    order (plane_of n) d k (units_of (grid n) d) (units_of (grid n) (other d)) (pieces_of n d k) (in_frame n d)
    (everywhere (Listed d) (all_listed d) n h k g)

-- ---- those on the boundary keep the rule with what is above them

abbrev Near : ℕ → ℕ → Type 0
Near n v = near (λ u. (plane_of n).edge rows (u, v)) (Boundary (plane_of n) rows) (end (plane_of n) rows) (plane_of n).sb ≡ false

none-near : Each 3 (λ n. Each (units_of (grid n) columns) (Near n))
unfolding at_least masks bits marks mark edge edge_bit is_set has_bit luma_bit chroma_bit
none-near = ((refl, (refl, tt)), ((refl, (refl, tt)), ((refl, (refl, (refl, (refl, tt)))), tt)))

abbrev pub Above : ℕ → Type 0
Above n = (v k a cls : ℕ) → (plane_of n).edge rows (k * (plane_of n).sb, v) ≡ some cls
    → Neighbours (λ u. (plane_of n).edge rows (u, v)) (Boundary (plane_of n) rows) (end (plane_of n) rows) a (k * (plane_of n).sb) → Allowed (k * (plane_of n).sb - a) cls

module _ (n : ℕ) (h : n < 3) (some-above : 4 ≤ (plane_of n).sb) (to : (plane_of n).sb ≤ end (plane_of n) rows) (two : units_of (grid n) rows ≤ 2 * (plane_of n).sb)
    (free : (a : ℕ) → (plane_of n).sb ≤ a + 3 → a < (plane_of n).sb → Boundary (plane_of n) rows a → ⊥) where
  above_at : Above n
  above_at v zero a cls e x = absurd (omega (arith, x.order))
  above_at v (suc zero) a cls e x =
      let z : 1 * (plane_of n).sb ≡ (plane_of n).sb = omega arith in
      let f = edge_in (grid n) masks rows (1 * (plane_of n).sb, v) cls e in
      rw z
      (allowed (λ u. (plane_of n).edge rows (u, v)) (Boundary (plane_of n) rows) (end (plane_of n) rows) (plane_of n).sb some-above to free
      (each_at (units_of (grid n) columns) (Near n) (each_at 3 (λ n. Each (units_of (grid n) columns) (Near n)) none-near n h) v f.1) cls a (rw z at e) (rw z at x))
  above_at v (suc (suc k)) a cls e x =
      let f = edge_in (grid n) masks rows (suc (suc k) * (plane_of n).sb, v) cls e in
      absurd (omega (arith, f.0, two))

pub above : Each 3 Above
above = (
  above_at 2 (omega arith) (omega arith) (omega arith) (omega arith) (λ a x y z. omega arith),
  (
    above_at 1 (omega arith) (omega arith) (omega arith) (omega arith) (λ a x y z. omega arith),
    (above_at 0 (omega arith) (omega arith) (omega arith) (omega arith) (λ a x y z. omega arith), tt),
  ),
)
