-- Where a line of units lies: its record, its unit there, the halves of its masks and the places along it, pass by pass, at each subsampling and each size of superblocks.
use mathlib.Core.Path.{◌≡◌, refl, sym, ap, ◌∙◌}
use mathlib.Core.Logic.{◌⊎◌, ⊎_elim}
use Prim.Native.Nat.{ℕ, ◌+◌, ◌*◌, ◌/◌, ◌%◌, ◌≤◌, ◌<◌}
use native.Mathlib.Nat.{mul_assoc, mul-le-mul_right, add-mul}
use native.Mathlib.Omega.{arith}
use Rattle.plane.specs.Line.{Pass, columns, rows}
use Rattle.units.specs.Frame.{records}
use Rattle.units.specs.Masks.{record_row, first_line, half_units}
use Rattle.units.specs.Units.{chroma_unit}
use Rattle.edges.specs.Edges.{units_of, side, half, record_at}
use Rattle.gap.specs.Promises.{Across, Along}
use Rattle.units.proofs.Places.{by-ss, side-le}
use Rattle.gap.proofs.Masks.{along}
use Rattle.gap.proofs.Shapes.{row-lines, row-halves}
use Rattle.filter.specs.declared.Component.{Component}
use Rattle.filter.specs.Filter.{Tables, grid_of}
use Rattle.filter.specs.Ready.{Stored}
use Rattle.filter.specs.Lines.{top_of, unit_at, unit_in, start_half, halves_of, Inner}

-- the record of row k and record rec, by its numbers across the pass and along it
abbrev pub rec_across : Component → Pass → ℕ → ℕ → ℕ
rec_across c columns k rec = rec
rec_across c rows k rec = record_row c.sb4.0 k

abbrev pub rec_along : Component → Pass → ℕ → ℕ → ℕ
rec_along c columns k rec = record_row c.sb4.0 k
rec_along c rows k rec = rec

-- the first place along the line, and how many there are
abbrev pub first_place : Component → Pass → ℕ → ℕ → ℕ
first_place c columns k rec = k * chroma_unit c.ss_ver c.sb4.0
first_place c rows k rec = rec * side (grid_of c) columns

abbrev pub places : Component → Pass → ℕ
places c columns = chroma_unit c.ss_ver c.sb4.0
places c rows = side (grid_of c) columns

pub record Spot (c : Component) (d : Pass) (k rec a : ℕ) : Type 0 where
  pub across : unit_at c d k rec a / side (grid_of c) d ≡ rec_across c d k rec
  pub unit : unit_at c d k rec a % side (grid_of c) d ≡ unit_in c d k a
  pub number : record_at (grid_of c) d (rec_across c d k rec) (rec_along c d k rec) ≡ record_row c.sb4.0 k * records c.w4.0 + rec
  pub first : (rec_along c d k rec * 2 + start_half c d k) * half (grid_of c) d ≡ first_place c d k rec
  pub two : start_half c d k + halves_of c d ≤ 2
  pub some : 1 ≤ halves_of c d
  pub many : halves_of c d * half (grid_of c) d ≡ places c d
  pub mine : Across (grid_of c) d c.sb4.0 k (unit_at c d k rec a)
  pub halves : (j : ℕ) → j < halves_of c d → Along (grid_of c) d c.sb4.0 k (rec_along c d k rec * 2 + (start_half c d k + j))
  pub inside : unit_at c d k rec a < units_of (grid_of c) d

abbrev pub Sizes : ℕ → ℕ → Type 0
Sizes ss sb4 = (sb4 / 16 * half_units ss ≡ chroma_unit ss sb4) × (1 ≤ sb4 / 16) × (8 ≤ chroma_unit ss sb4) × (chroma_unit ss sb4 ≤ 32)

pub row-sizes : (ss sb4 : ℕ) → ss ≤ 1 → (sb4 ≡ 16) ⊎ (sb4 ≡ 32) → Sizes ss sb4
row-sizes ss sb4 h =
    ⊎_elim (λ e. rw e (by-ss (λ t. Sizes t 16) (omega arith) (omega arith) ss h)) (λ e. rw e (by-ss (λ t. Sizes t 32) (omega arith) (omega arith) ss h))

module _ (c : Component) (t : Tables) (k rec a len : ℕ) (s : Stored c t len) where
  column-spot : k * c.sb4.0 < c.h4.0 → Inner c columns k rec a → Spot c columns k rec a
  column-spot r i =
      let G = grid_of c in
      let w = row-sizes c.ss_ver c.sb4.0 s.proper.ss-ver-le s.size in
      let h = row-halves c.h4.0 c.sb4.0 k s.size r in
      let l = along G s.proper rows in
      record {
        across = l.of-record rec a (omega (arith, i.unit));
        unit = l.in-record rec a (omega (arith, i.unit));
        number = refl;
        first = ap (λ (n : ℕ). n * half G columns) h.half_no ∙ mul_assoc k (c.sb4.0 / 16) (half G columns) ∙ ap (λ (n : ℕ). k * n) w.0;
        two = h.two;
        some = w.1;
        many = w.0;
        mine = omega (arith, i.unit, i.rec-in, mul-le-mul_right (side G columns) i.rec-in, add-mul rec 1 (side G columns));
        halves = λ j b. (omega (arith, h.half_no), omega (arith, h.half_no, add-mul k 1 (c.sb4.0 / 16)));
        inside = omega (arith, i.unit);
      }

  row-spot : k * c.sb4.0 < c.h4.0 → Inner c rows k rec a → Spot c rows k rec a
  row-spot r i =
      let G = grid_of c in
      let q = row-lines c.ss_ver c.h4.0 c.sb4.0 k s.proper.ss-ver-le s.size r in
      let l = along G s.proper columns in
      let y : top_of c rows k a ≡ record_row c.sb4.0 k * side G rows + (first_line c.ss_ver c.sb4.0 k + a) = omega (arith, q.lines) in
      let b : first_line c.ss_ver c.sb4.0 k + a < side G rows = omega (arith, q.room, i.unit) in
      record {
        across = ap (λ (v : ℕ). v / side G rows) y ∙ l.of-record (record_row c.sb4.0 k) (first_line c.ss_ver c.sb4.0 k + a) b;
        unit = ap (λ (v : ℕ). v % side G rows) y ∙ l.in-record (record_row c.sb4.0 k) (first_line c.ss_ver c.sb4.0 k + a) b;
        number = refl;
        first = omega (arith, (along G s.proper rows).half_at rec 0 0);
        two = omega arith;
        some = omega arith;
        many = sym (along G s.proper rows).two;
        mine = (omega arith, omega (arith, i.unit, add-mul k 1 (chroma_unit c.ss_ver c.sb4.0)));
        halves = λ j b. omega (arith, i.rec-in);
        inside = omega (arith, i.unit);
      }

  pub spot : (d : Pass) → k * c.sb4.0 < c.h4.0 → Inner c d k rec a → Spot c d k rec a
  spot columns = column-spot
  spot rows = row-spot

  pub places-le : (d : Pass) → places c d ≤ 32
  places-le columns = (row-sizes c.ss_ver c.sb4.0 s.proper.ss-ver-le s.size).3
  places-le rows = side-le c.ss_hor s.proper.ss-hor-le
