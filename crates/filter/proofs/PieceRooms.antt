-- A line may be walked: under the gap rule a piece reads no sample before the plane's start, none past its stored end and, in rows, none past the row, and level bytes and
-- samples are there.
use mathlib.Core.Path.{◌≡◌, sym, ap, ◌∙◌}
use mathlib.Core.Bool.{Bool, true, false, cond, false≢true}
use mathlib.Core.Logic.{by_cases}
use mathlib.Core.Option.{Option, some, none}
use Prim.Native.Nat.{ℕ, zero, suc, ◌+◌, ◌-◌, ◌*◌, ◌≤◌, ◌<◌}
use native.Mathlib.Decide.{dec_lt}
use native.Mathlib.Nat.{add-mul, suc-mul, zero-mul, mul_comm, mul-le-mul_left, mul-le-mul_right}
use native.Mathlib.Omega.{arith}
use lib.Dec.{eqb, ltb}
use lib.ListN.{length, get_or}
use borrow.Author.Tests.{lt-ltb}
use Rattle.bits.specs.Bit.{has_bit}
use Rattle.plane.specs.Line.{Pass, columns, rows, ix, line_step, sample_step, other, pass_no}
use Rattle.plane.specs.Plane.{luma, chroma, right, down}
use Rattle.plane.proofs.Gaps.{Reach, gap-close, after-start, before-end}
use Rattle.plane.proofs.Pieces.{fair-luma, fair-chroma}
use Rattle.units.specs.Frame.{records}
use Rattle.units.specs.Memory.{level_at}
use Rattle.units.specs.Units.{chroma_unit}
use Rattle.units.proofs.Places.{chroma-units-le, level_in_lem, pass-lt}
use Rattle.edges.specs.Edges.{units_of, side, edge}
use Rattle.line.specs.Width.{reads}
use Rattle.units.specs.Masks.{record_row}
use Rattle.gap.specs.Numbers.{sb_units, stored_units, part}
use Rattle.gap.specs.Promises.{Nowhere}
use Rattle.gap.proofs.Shapes.{row-lines, row-halves, units-stored}
use Rattle.gap.proofs.NumbersMean.{edge_in}
use Rattle.walk.specs.declared.UnitLine.{UnitLine}
use Rattle.walk.specs.Ready.{Ready, Walkable}
use Rattle.walk.specs.Walk.{len_of, set_in, len_at}
use Rattle.walk.specs.Walk as walk
use Rattle.filter.specs.declared.Component.{Component}
use Rattle.filter.specs.Filter.{Tables, grid_of, area_of, before}
use Rattle.filter.specs.Ready.{Stored, Fit}
use Rattle.filter.specs.Lines.{unit_at, along_step, line_in, Inner}
use Rattle.filter.proofs.UnitPlaces.{first_place, places, row-sizes}
use Rattle.filter.proofs.Words.{picked, none_over}
use Rattle.filter.proofs.UnitActs.{reads-is, len-in, index_is, level-place, before-place}

reach : (b : Bool) → Reach (cond b luma chroma).reads
reach true = fair-luma.reach
reach false = fair-chroma.reach

some_read : (luma : Bool) (class : ℕ) → 1 ≤ reads (len_of luma class)
some_read true zero = omega arith
some_read true (suc zero) = omega arith
some_read true (suc (suc class)) = omega arith
some_read false zero = omega arith
some_read false (suc class) = omega arith

module _ (c : Component) (t : Tables) (k len : ℕ) (s : Stored c t len) where
  -- superblock row k is stored
  pub row-stored : k * c.sb4.0 < c.h4.0 → (k + 1) * chroma_unit c.ss_ver c.sb4.0 ≤ records c.h4.0 * side (grid_of c) rows
  row-stored h =
      let q = row-lines c.ss_ver c.h4.0 c.sb4.0 k s.proper.ss-ver-le s.size h in
      omega (
        arith,
        q.lines,
        q.room,
        add-mul k 1 (chroma_unit c.ss_ver c.sb4.0),
        add-mul (record_row c.sb4.0 k) 1 (side (grid_of c) rows),
        mul-le-mul_right (side (grid_of c) rows) (row-halves c.h4.0 c.sb4.0 k s.size h).down,
      )

  -- y stored lines of samples
  pub lines-in : (y : ℕ) → y ≤ 4 * (records c.h4.0 * side (grid_of c) rows) → y * c.stride ≤ len
  lines-in y h = omega (arith, s.stored-long, mul-le-mul_right c.stride h, mul_comm c.stride (4 * (records c.h4.0 * side (grid_of c) rows)))

  -- at least 16 lines of samples lie above a row that is not the first
  rows_above : 0 < k → 8 ≤ 4 * (k * chroma_unit c.ss_ver c.sb4.0)
  rows_above h = omega (arith, mul-le-mul_right (chroma_unit c.ss_ver c.sb4.0) h, row-sizes c.ss_ver c.sb4.0 s.proper.ss-ver-le s.size)

-- the end across the pass, up to which samples may be read
abbrev pub end_of : Component → Pass → ℕ → ℕ
end_of c columns k = records c.w4.0 * side (grid_of c) columns
end_of c rows k = (k + 1) * chroma_unit c.ss_ver c.sb4.0

part_at : (first n : ℕ) (line : ℕ → Option ℕ) (a cls : ℕ) → a < n → line (first + a) ≡ some cls → part first n line a ≡ some cls
unfolding part
part_at first n line a cls l e = rw (lt-ltb a n l) e

-- a piece at place v that reads n samples a side
pub record Reads (c : Component) (d : Pass) (k rec a v n : ℕ) : Type 0 where
  pub some : 1 ≤ n
  pub start : n ≤ 4 * unit_at c d k rec a
  pub end : 4 * unit_at c d k rec a + n ≤ 4 * end_of c d k
  pub across : unit_at c d k rec a < units_of (grid_of c) d
  pub along : first_place c d k rec + v < units_of (grid_of c) (other d)
  pub place : v < places c d

module _ (c : Component) (t : Tables) (k rec a len : ℕ) (s : Stored c t len) (v cls : ℕ) where
  abbrev rd : ℕ
  rd = (cond (eqb c.plane 0) luma chroma).reads cls

  -- by the gap rule
  gap-reads : (d : Pass) → Fit c t d k → Inner c d k rec a → v < places c d
      → edge (grid_of c) t.masks d (unit_at c d k rec a, first_place c d k rec + v) ≡ some cls → (rd ≤ 4 * unit_at c d k rec a) × (4 * unit_at c d k rec a + rd ≤ 4 * end_of c d k)
  gap-reads columns f i l e =
      let G = grid_of c in
      let y = first_place c columns k rec + v in
      let x = edge_in G t.masks columns (unit_at c columns k rec a, y) cls e in
      let w = gap-close (λ u. edge G t.masks columns (u, y)) Nowhere (stored_units G) (λ u. no (λ z. z))
      (f.gap y (omega arith, omega (arith, add-mul k 1 (chroma_unit c.ss_ver c.sb4.0)), x.1)) in (
        after-start (cond (eqb c.plane 0) luma chroma).reads (reach (eqb c.plane 0)) _ Nowhere _ w (unit_at c columns k rec a) cls e i.first,
        before-end (cond (eqb c.plane 0) luma chroma).reads (reach (eqb c.plane 0)) _ Nowhere _ w (unit_at c columns k rec a) cls e
            (omega (arith, x.0, units-stored c.ss_hor c.w4.0 s.proper.ss-hor-le)),
      )
  gap-reads rows f i l e =
      let G = grid_of c in
      let sb = sb_units G c.sb4.0 in
      let x = first_place c rows k rec + v in
      let la : a < sb = omega (arith, i.unit) in
      let w = gap-close (part (k * sb) sb (λ u. edge G t.masks rows (u, x))) Nowhere sb (λ u. no (λ z. z))
      (f.gap x (edge_in G t.masks rows (unit_at c rows k rec a, x) cls e).1) in
      let q = part_at (k * sb) sb (λ u. edge G t.masks rows (u, x)) a cls la e in (
        by_cases (dec_lt 0 a)
            (λ p. omega (arith, after-start (cond (eqb c.plane 0) luma chroma).reads (reach (eqb c.plane 0)) _ Nowhere _ w a cls q p))
            (λ p. omega (arith, rows_above c t k len s (not_first p), (reach (eqb c.plane 0)).any cls)),
        omega
            (arith, add-mul k 1 sb, before-end (cond (eqb c.plane 0) luma chroma).reads (reach (eqb c.plane 0)) _ Nowhere _ w a cls q la),
      )
    where
      not_first : ¬ (0 < a) → 0 < k
      not_first p =
          by_cases (dec_lt 0 k) (λ z. z)
          (λ z. let e : k ≡ 0 = omega arith in absurd (omega (arith, i.first, ap (λ (n : ℕ). n * sb_units (grid_of c) c.sb4.0) e, zero-mul (sb_units (grid_of c) c.sb4.0))))

-- ---- indices

col-to : (y u n S len : ℕ) → 1 ≤ n → 4 * u + n ≤ S → (4 * y + 4) * S ≤ len → 4 * y * S + 4 * u + 3 * S + (n - 1) * 1 < len
col-to y u n S len p q r = omega arith

row-to : (u x n S len : ℕ) → 1 ≤ n → 4 * x + 4 ≤ S → (4 * u + n) * S ≤ len → 4 * u * S + 4 * x + 3 * 1 + (n - 1) * S < len
row-to u x zero S len p q r = absurd (omega arith)
row-to u x (suc n) S len p q r =
    let e : suc n - 1 ≡ n = omega arith in omega (arith, add-mul (4 * u) (suc n) S, suc-mul n S, ap (λ (m : ℕ). m * S) e)

module _ (c : Component) (t : Tables) (k rec a v n len : ℕ) (s : Stored c t len) where
  from_in : (d : Pass) → Reads c d k rec a v n → n * sample_step d c.stride ≤ ix d c.stride (4 * (first_place c d k rec + v)) (4 * unit_at c d k rec a)
  from_in columns r = omega (arith, r.start)
  from_in rows r = omega (arith, mul-le-mul_right c.stride r.start)

  to_in : (d : Pass) → k * c.sb4.0 < c.h4.0 → Reads c d k rec a v n
      → ix d c.stride (4 * (first_place c d k rec + v)) (4 * unit_at c d k rec a) + 3 * line_step d c.stride + (n - 1) * sample_step d c.stride < len
  to_in columns h r =
      col-to (first_place c columns k rec + v) (unit_at c columns k rec a) n c.stride len r.some (omega (arith, r.end, s.stored-wide))
      (lines-in c t k len s (4 * (first_place c columns k rec + v) + 4)
      (omega (arith, r.along, units-stored c.ss_ver c.h4.0 s.proper.ss-ver-le)))
  to_in rows h r =
      row-to (unit_at c rows k rec a) (first_place c rows k rec + v) n c.stride len r.some
      (omega (arith, r.along, s.stored-wide, units-stored c.ss_hor c.w4.0 s.proper.ss-hor-le))
      (lines-in c t k len s (4 * unit_at c rows k rec a + n) (omega (arith, r.end, row-stored c t k len s h)))

-- ---- level bytes

module _ (c : Component) (t : Tables) (k len u w : ℕ) (s : Stored c t len) where
  area-lt : (d : Pass) → area_of c d < 4
  area-lt d = go (eqb c.plane 0) (pass-lt d)
    where
      go : (b : Bool) → pass_no d < 2 → cond b (pass_no d) (suc c.plane) < 4
      go true h = omega arith
      go false h = omega (arith, s.plane)

  pub level-there : (d : Pass) → u < units_of (grid_of c) d → w < units_of (grid_of c) (other d)
      → level_at c.level_stride (right d (u, w)) (down d (u, w)) (area_of c d) < length t.levels
  level-there columns hu hw =
      level_in_lem (length t.levels) c.level_stride c.w4.0 c.h4.0 u w (area_of c columns) s.levels-wide s.levels-long
      (omega (arith, chroma-units-le c.w4.0 c.ss_hor s.proper.ss-hor-le)) (omega (arith, chroma-units-le c.h4.0 c.ss_ver s.proper.ss-ver-le))
      (area-lt columns)
  level-there rows hu hw =
      level_in_lem (length t.levels) c.level_stride c.w4.0 c.h4.0 w u (area_of c rows) s.levels-wide s.levels-long
      (omega (arith, chroma-units-le c.w4.0 c.ss_hor s.proper.ss-hor-le)) (omega (arith, chroma-units-le c.h4.0 c.ss_ver s.proper.ss-ver-le))
      (area-lt rows)

-- of the unit u itself and of the one before it
level-low : (c : Component) (t : Tables) (k rec a v u : ℕ) (d : Pass) → Fit c t d k → Inner c d k rec a
    → u ≤ unit_at c d k rec a → unit_at c d k rec a ≤ u + 1 → unit_at c d k rec a < units_of (grid_of c) d → v < places c d → first_place c d k rec + v < units_of (grid_of c) (other d)
    → get_or t.levels (level_at c.level_stride (right d (u, first_place c d k rec + v)) (down d (u, first_place c d k rec + v)) (area_of c d)) 0 ≤ 63
level-low c t k rec a v u columns f i p q x l y =
    f.levels u (first_place c columns k rec + v) (omega arith) y (omega arith) (omega (arith, add-mul k 1 (chroma_unit c.ss_ver c.sb4.0)))
level-low c t k rec a v u rows f i p q x l y =
    f.levels (first_place c rows k rec + v) u y (omega arith) (omega arith) (omega (arith, i.unit, add-mul k 1 (chroma_unit c.ss_ver c.sb4.0)))

pub step_in : (c : Component) (t : Tables) (len : ℕ) (d : Pass) → Stored c t len → 0 < c.h4.0 → along_step c d ≤ length t.levels
step_in c t len columns s h = omega (arith, s.levels-long, mul-le-mul_left (4 * c.level_stride) h)
step_in c t len rows s h = omega (arith, s.levels-long, s.levels-wide, s.some, mul-le-mul_left (4 * c.level_stride) h)

-- ---- the walk

module _ (c : Component) (t : Tables) (d : Pass) (k rec a len : ℕ) (s : Stored c t len) (f : Fit c t d k) (i : Inner c d k rec a)
    (small : (j : ℕ) → get_or t.masks j 0 < 65536) where
  abbrev U : UnitLine
  U = line_in c t.masks d k rec a

  module _ (v : ℕ) (h : has_bit (set_in U) v ≡ true) where
    in_place : v < places c d
    in_place =
        by_cases (dec_lt v (places c d)) (λ x. x)
        (λ x. absurd (false≢true (sym (none_over c t d k rec a len s f i small v (omega arith)) ∙ h)))

    is-edge : edge (grid_of c) t.masks d (unit_at c d k rec a, first_place c d k rec + v) ≡ some (walk.highest U.m1 U.m2 v)
    is-edge =
        picked c t d k rec a len s f i small v in_place ∙ ap (λ (b : Bool). cond b (some (walk.highest U.m1 U.m2 v)) none) h

    pub reads_at : Reads c d k rec a v (reads (len_at U v))
    reads_at =
        let e = reads-is (eqb c.plane 0) (walk.highest U.m1 U.m2 v) ∙ ap reads (len-in (eqb c.plane 0) (walk.highest U.m1 U.m2 v)) in
        let x = edge_in (grid_of c) t.masks d (unit_at c d k rec a, first_place c d k rec + v) (walk.highest U.m1 U.m2 v) is-edge in
        let w = gap-reads c t k rec a len s v (walk.highest U.m1 U.m2 v) d f i in_place is-edge in
        record {
          some = some_read (ltb 2 U.classes) (walk.highest U.m1 U.m2 v);
          start = omega (arith, e, w.0);
          end = omega (arith, e, w.1);
          across = x.0;
          along = x.1;
          place = in_place;
        }

    ready : Ready t.levels U len v
    ready =
        let r = reads_at in
        let p = level-place c k rec a v d (area_of c d) in
        let b = before-place c k rec a v d (area_of c d) i.first in
        let q = index_is c k rec a v d in
        let b' : level_at c.level_stride (right d (before (unit_at c d k rec a, first_place c d k rec + v))) (down d (before (unit_at c d k rec a, first_place c d k rec + v)))
        (area_of c d) ≡ U.at + v * U.along - U.back = omega arith in
        record {
          inside = rw (← p) (level-there c t k len (unit_at c d k rec a) (first_place c d k rec + v) s d r.across r.along);
          behind = omega arith;
          level = rw (← p)
              (level-low c t k rec a v (unit_at c d k rec a) d f i (omega arith) (omega arith) r.across r.place r.along);
          before = rw (← b')
              (level-low c t k rec a v (unit_at c d k rec a - 1) d f i (omega arith) (omega arith) r.across r.place r.along);
          from = rw (← q) (from_in c t k rec a v (reads (len_at U v)) len s d r);
          to = rw (← q) (to_in c t k rec a v (reads (len_at U v)) len s d f.row r);
        }

  pub walkable : Walkable t.levels U len
  walkable = record { step = step_in c t len d s (omega (arith, f.row)); ready = ready }
