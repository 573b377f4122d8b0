-- The lines of a record: those of the frame, but the one at its start, are walked, and along the others nothing is done.
use mathlib.Core.Path.{◌≡◌, refl, sym, ap, ◌∙◌}
use mathlib.Core.Bool.{cond}
use mathlib.Core.List.{List}
use mathlib.Core.Logic.{by_cases}
use mathlib.Core.Option.{none}
use Prim.Native.Nat.{ℕ, ◌+◌, ◌*◌, ◌^◌, ◌≤◌, ◌<◌}
use native.Mathlib.Decide.{dec_lt, ℕ_discrete}
use native.Mathlib.Nat.{add-mul, zero-mul, mul-le-mul_right}
use native.Mathlib.Omega.{arith}
use lib.Dec.{eqb}
use lib.ListN.{length}
use borrow.Author.Tests.{le-ltb, eq-eqb, ne_eqb}
use Rattle.loops.specs.Run.{up_to}
use Rattle.loops.proofs.Runs.{up_to-idle}
use Rattle.plane.specs.Line.{Pass, columns, rows, other}
use Rattle.plane.specs.Plane.{Plane, inner, class, act}
use Rattle.plane.proofs.Pieces.{idle, inner-none}
use Rattle.units.specs.Frame.{records}
use Rattle.units.specs.Units.{chroma_unit}
use Rattle.units.specs.Memory.{level_at}
use Rattle.edges.specs.Edges.{side, units_of, edge}
use Rattle.gap.proofs.Frames.{record-in}
use Rattle.gap.proofs.Masks.{along}
use Rattle.gap.proofs.Shapes.{row-lines, record-starts, units-stored}
use Rattle.filter.specs.declared.Component.{Component}
use Rattle.filter.specs.Filter.{Tables, grid_of, area_of, plane_of, across, line_of, sweep_of}
use Rattle.filter.specs.Ready.{Stored, Fit}
use Rattle.filter.specs.Lines.{left_of, top_of, unit_at, across_of, units_across, first_unit, record_sweep, Counted, Inner}
use Rattle.filter.proofs.UnitPlaces.{first_place, places, row-sizes, Spot, spot}
use Rattle.filter.proofs.UnitActs.{line-places}
use Rattle.filter.proofs.PieceRooms.{lines-in, level-there, step_in}

-- ---- the numbers of a line fit

module _ (c : Component) (t : Tables) (k rec a len : ℕ) (s : Stored c t len) where
  first-in : (d : Pass) → k * c.sb4.0 < c.h4.0 → rec < records c.w4.0 → first_place c d k rec < units_of (grid_of c) (other d)
  first-in columns h l = (row-lines c.ss_ver c.h4.0 c.sb4.0 k s.proper.ss-ver-le s.size h).down
  first-in rows h l = record-starts c.ss_hor c.w4.0 rec s.proper.ss-hor-le l

  sample_in : (d : Pass) → Spot c d k rec a → first_place c d k rec < units_of (grid_of c) (other d) → 4 * (top_of c d k a * c.stride + left_of c d rec a) ≤ len
  sample_in columns p q =
      omega (
        arith,
        lines-in c t k len s (4 * top_of c columns k a + 4) (omega (arith, units-stored c.ss_ver c.h4.0 s.proper.ss-ver-le)),
        add-mul (4 * top_of c columns k a) 4 c.stride,
        p.inside,
        units-stored c.ss_hor c.w4.0 s.proper.ss-hor-le,
        s.stored-wide,
      )
  sample_in rows p q =
      omega (
        arith,
        lines-in c t k len s (4 * top_of c rows k a + 4) (omega (arith, p.inside, units-stored c.ss_ver c.h4.0 s.proper.ss-ver-le)),
        add-mul (4 * top_of c rows k a) 4 c.stride,
        units-stored c.ss_hor c.w4.0 s.proper.ss-hor-le,
        s.stored-wide,
      )

  level-at : (d : Pass) → Spot c d k rec a → first_place c d k rec < units_of (grid_of c) (other d)
      → level_at c.level_stride (left_of c d rec a) (top_of c d k a) (area_of c d) < length t.levels
  level-at columns p q = level-there c t k len (unit_at c columns k rec a) (first_place c columns k rec) s columns p.inside q
  level-at rows p q = level-there c t k len (unit_at c rows k rec a) (first_place c rows k rec) s rows p.inside q

  few-lines : (d : Pass) → a < units_across c d k rec → a < across_of c d
  few-lines columns h = omega arith
  few-lines rows h = omega arith

  pub counted : (d : Pass) → Fit c t d k → Inner c d k rec a → len < 2 ^ 64 → length t.levels < 2 ^ 64 → Counted c d k rec a (length t.masks)
  counted d f i x y =
      let p = spot c t k rec a len s d f.row i in
      let q = first-in d f.row i.rec-in in
      record {
        plane = s.plane;
        proper = s.proper;
        size = s.size;
        width = s.width;
        row = omega (arith, f.row, s.height);
        rec-in = i.rec-in;
        unit = few-lines d i.unit;
        masks = record-in (length t.masks) c.w4.0 c.h4.0 c.sb4.0 k
            (record { size = s.size; down = f.row; width = s.width; height = s.height; long = s.masks-long }) rec i.rec-in;
        sample = omega (arith, sample_in d p q);
        level = omega (arith, level-at d p q);
        level_stride = omega (arith, step_in c t len columns s (omega (arith, f.row)));
      }

-- ---- lines with no edge

module _ (c : Component) (t : Tables) (d : Pass) (k rec a : ℕ) (l : List ℕ) where
  no_edges : ((v : ℕ) → class (plane_of c t) d (unit_at c d k rec a, first_place c d k rec + v) ≡ none) → line_of (plane_of c t) d k rec a l ≡ l
  no_edges h =
      line-places c t k rec a d l
      ∙ up_to-idle (λ v. act (plane_of c t) d (unit_at c d k rec a, first_place c d k rec + v)) 0 (places c d)
      (λ v _ m. idle (plane_of c t) d (unit_at c d k rec a, first_place c d k rec + v) (h v) m) (omega arith) l

  pub at-start : unit_at c d k rec a ≡ 0 → line_of (plane_of c t) d k rec a l ≡ l
  at-start e = no_edges (λ v. ap (λ (u : ℕ). inner u (edge (grid_of c) t.masks d (unit_at c d k rec a, first_place c d k rec + v))) e)

  pub past_end : units_of (grid_of c) d ≤ unit_at c d k rec a → line_of (plane_of c t) d k rec a l ≡ l
  unfolding edge
  past_end h =
      no_edges (λ v. ap (inner (unit_at c d k rec a)) (rw (le-ltb (unit_at c d k rec a) (units_of (grid_of c) d) h) refl) ∙ inner-none (unit_at c d k rec a))

-- ---- the lines of a record

flag-le : (n : ℕ) → cond (eqb n 0) 1 0 ≤ 1
flag-le n = by_cases (ℕ_discrete n 0) (λ e. rw (eq-eqb n 0 e) (omega arith)) (λ e. rw (ne_eqb n 0 e) (omega arith))

-- past a start that is there, or at no start
past-start : (n a m : ℕ) → cond (eqb n 0) 1 0 ≤ a → 0 < m → 0 < n * m + a
past-start n a m h p =
    by_cases (ℕ_discrete n 0) (λ e. let x : 1 ≤ a = rw (eq-eqb n 0 e) at h in omega arith)
    (λ e. let x : 1 ≤ n = omega arith in omega (arith, mul-le-mul_right m x))

from_start : {S : Type 0} (f : ℕ → S → S) (n : ℕ) (l : S) → (n ≡ 0 → f 0 l ≡ l) → up_to f (cond (eqb n 0) 1 0) l ≡ l
from_start f n l h = by_cases (ℕ_discrete n 0) (λ e. rw (eq-eqb n 0 e) (h e)) (λ e. rw (ne_eqb n 0 e) refl)

module _ (c : Component) (t : Tables) (k rec len : ℕ) (s : Stored c t len) where
  side-some : 0 < side (grid_of c) columns
  side-some = omega (arith, (along (grid_of c) s.proper rows).bit-of 0, (along (grid_of c) s.proper rows).two)

  -- some line lies in the frame
  pub some-lines : (d : Pass) → k * c.sb4.0 < c.h4.0 → rec < records c.w4.0 → first_unit d k rec ≤ units_across c d k rec
  some-lines columns h l =
      omega (arith, flag-le rec, record-starts c.ss_hor c.w4.0 rec s.proper.ss-hor-le l, side-some)
  some-lines rows h l =
      omega (
        arith,
        flag-le k,
        (row-lines c.ss_ver c.h4.0 c.sb4.0 k s.proper.ss-ver-le s.size h).down,
        row-sizes c.ss_ver c.sb4.0 s.proper.ss-ver-le s.size,
      )

  inner-line : (a : ℕ) (d : Pass) → first_unit d k rec ≤ a → 0 < unit_at c d k rec a
  inner-line a columns h = past-start rec a (side (grid_of c) columns) h side-some
  inner-line a rows h =
      past-start k a (chroma_unit c.ss_ver c.sb4.0) h (omega (arith, row-sizes c.ss_ver c.sb4.0 s.proper.ss-ver-le s.size))

  pub inner_of : (a : ℕ) (d : Pass) → rec < records c.w4.0 → first_unit d k rec ≤ a → a < units_across c d k rec → Inner c d k rec a
  inner_of a d x y z = record { rec-in = x; unit = z; first = inner-line a d y }

module _ (c : Component) (t : Tables) (k rec : ℕ) (l : List ℕ) where
  pub start-idle : (d : Pass) → up_to (line_of (plane_of c t) d k rec) (first_unit d k rec) l ≡ l
  start-idle columns =
      from_start (line_of (plane_of c t) columns k rec) rec l
      (λ e. at-start c t columns k rec 0 l (omega (arith, ap (λ (n : ℕ). n * side (grid_of c) columns) e, zero-mul (side (grid_of c) columns))))
  start-idle rows =
      from_start (line_of (plane_of c t) rows k rec) k l
      (λ e. at-start c t rows k rec 0 l
      (omega (arith, ap (λ (n : ℕ). n * chroma_unit c.ss_ver c.sb4.0) e, zero-mul (chroma_unit c.ss_ver c.sb4.0))))

  record-done : (d : Pass) → across (plane_of c t) d ≡ across_of c d → ((a : ℕ) → units_across c d k rec ≤ a → units_across c d k rec < across_of c d
      → units_of (grid_of c) d ≤ unit_at c d k rec a) → units_across c d k rec ≤ across_of c d → up_to (line_of (plane_of c t) d k rec) (units_across c d k rec) l ≡ record_sweep (plane_of c t) d k rec l
  unfolding record_sweep
  record-done d e h le =
      by_cases (dec_lt (units_across c d k rec) (across_of c d))
      (λ x. sym (up_to-idle (line_of (plane_of c t) d k rec) (units_across c d k rec) (across_of c d) (λ a y m. past_end c t d k rec a m (h a y x)) le l)
      ∙ ap (λ (n : ℕ). up_to (line_of (plane_of c t) d k rec) n l) (sym e))
      (λ x. let z : units_across c d k rec ≡ across (plane_of c t) d = omega arith in ap (λ (n : ℕ). up_to (line_of (plane_of c t) d k rec) n l) z)

  pub record-whole : (d : Pass) → up_to (line_of (plane_of c t) d k rec) (units_across c d k rec) l ≡ record_sweep (plane_of c t) d k rec l
  record-whole columns = record-done columns refl (λ a x y. omega arith) (omega arith)
  record-whole rows = record-done rows refl (λ a x y. omega arith) (omega arith)

pub sweep-whole : (P : Plane) (d : Pass) (k : ℕ) (l : List ℕ) → up_to (λ rec. record_sweep P d k rec) P.records l ≡ sweep_of P d k l
unfolding record_sweep sweep_of
sweep-whole P d k l = refl
