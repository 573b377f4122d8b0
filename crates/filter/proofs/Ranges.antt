-- What a walk reads lies in the row's stored lines, or in rows among the 8 above, and a walk keeps them in range.
use mathlib.Core.Path.{◌≡◌, sym, ap, ◌∙◌}
use mathlib.Core.List.{List}
use mathlib.Core.Logic.{by_cases}
use Prim.Native.Nat.{ℕ, ◌+◌, ◌-◌, ◌*◌, ◌^◌, ◌≤◌, ◌<◌}
use native.Mathlib.Decide.{dec_lt}
use native.Mathlib.Nat.{add-mul}
use native.Mathlib.Omega.{arith}
use lib.ListN.{length, get_or}
use borrow.Author.Tests.{lt-ltb, le-ltb}
use Rattle.plane.specs.Line.{Pass, columns, rows, ix, line_step, sample_step}
use Rattle.units.specs.Units.{chroma_unit}
use Rattle.line.specs.Width.{reads}
use Rattle.piece.specs.Samples.{index, PieceUnder}
use Rattle.gap.proofs.Shapes.{units-stored}
use Rattle.walk.specs.declared.UnitLine.{UnitLine}
use Rattle.walk.specs.Ready.{InRange}
use Rattle.walk.specs.Walk.{len_at, walked}
use Rattle.walk.proofs.Ranges.{visits-below}
use Rattle.filter.specs.declared.Component.{Component}
use Rattle.filter.specs.Filter.{Tables}
use Rattle.filter.specs.Ready.{Stored, Fit, Under}
use Rattle.filter.specs.Lines.{unit_at, line_in, Inner}
use Rattle.filter.proofs.UnitPlaces.{first_place}
use Rattle.filter.proofs.UnitActs.{index_is}
use Rattle.filter.proofs.PieceRooms.{Reads, reads_at, walkable}

-- place q of line j of a piece, where n samples a side are there
module _ (S j q n u y : ℕ) (h : n ≤ 4 * u) (lo : 8 ≤ q + n) where
  column-index : index (4 * y * S + 4 * u + j * S) 1 q ≡ (4 * y + j) * S + (4 * u + q - 8)
  column-index =
      by_cases (dec_lt q 8) (λ l. rw (lt-ltb q 8 l) (omega (arith, add-mul (4 * y) j S)))
      (λ l. rw (le-ltb q 8 (omega arith)) (omega (arith, add-mul (4 * y) j S)))

  row-index : index (4 * u * S + 4 * y + j * 1) S q ≡ (4 * u + q - 8) * S + (4 * y + j)
  row-index =
      by_cases (dec_lt q 8)
      (λ l.
      let e : 4 * u ≡ (4 * u + q - 8) + (8 - q) = omega arith in
      rw (lt-ltb q 8 l) (ap (λ (x : ℕ). x * S + 4 * y + j * 1 - (8 - q) * S) e ∙ back (4 * u + q - 8) (8 - q)))
      (λ l.
      let e : 4 * u + q - 8 ≡ 4 * u + (q - 8) = omega arith in
      rw (le-ltb q 8 (omega arith)) (on (4 * u) (q - 8) ∙ ap (λ (x : ℕ). x * S + (4 * y + j)) (sym e)))
    where
      back : (m b : ℕ) → (m + b) * S + 4 * y + j * 1 - b * S ≡ m * S + (4 * y + j)
      back m b = omega arith

      on : (m b : ℕ) → m * S + 4 * y + j * 1 + b * S ≡ (m + b) * S + (4 * y + j)
      on m b = omega arith

module _ (c : Component) (t : Tables) (k rec a v n len m : ℕ) (s : Stored c t len) (l : List ℕ) where
  reached : (d : Pass) → Under m c d k l → Inner c d k rec a → Reads c d k rec a v n
      → PieceUnder m n (line_step d c.stride) (sample_step d c.stride) (ix d c.stride (4 * (first_place c d k rec + v)) (4 * unit_at c d k rec a)) l
  reached columns b i r =
      record {
        line = λ j lj. record {
          under = λ q w.
              rw (column-index c.stride j q n (unit_at c columns k rec a) (first_place c columns k rec + v) r.start w.from)
              (b.under (4 * unit_at c columns k rec a + q - 8) (4 * (first_place c columns k rec + v) + j) (omega (arith, w.from, w.to, r.start, r.end))
              (omega arith) (omega (arith, r.place, add-mul k 1 (chroma_unit c.ss_ver c.sb4.0))));
        };
      }
  reached rows b i r =
      record {
        line = λ j lj. record {
          under = λ q w.
              rw (row-index c.stride j q n (unit_at c rows k rec a) (first_place c rows k rec + v) r.start w.from)
              (b.under (4 * (first_place c rows k rec + v) + j) (4 * unit_at c rows k rec a + q - 8)
              (omega (arith, r.along, units-stored c.ss_hor c.w4.0 s.proper.ss-hor-le)) (omega (arith, w.from, r.start))
              (omega (arith, w.from, w.to, r.start, r.end)));
        };
      }

module _ (c : Component) (t : Tables) (d : Pass) (k rec a len m : ℕ) (s : Stored c t len) (f : Fit c t d k) (i : Inner c d k rec a)
    (small : (j : ℕ) → get_or t.masks j 0 < 65536) (l : List ℕ) (b : Under m c d k l) where
  abbrev U : UnitLine
  U = line_in c t.masks d k rec a

  pub in-range : InRange m U l
  in-range =
      record {
        piece = λ v h. rw (← index_is c k rec a v d)
            (reached c t k rec a v (reads (len_at U v)) len m s l d b i (reads_at c t d k rec a len s f i small v h));
      }

-- a walk keeps the samples in range
pub stays : (c : Component) (t : Tables) (d : Pass) (k rec a : ℕ) (l : List ℕ) → Stored c t (length l) → Fit c t d k → Inner c d k rec a
    → ((j : ℕ) → get_or t.masks j 0 < 65536) → 8 ≤ t.depth → Under (2 ^ t.depth) c d k l
    → Under (2 ^ t.depth) c d k (walked t.depth t.e t.i t.levels (line_in c t.masks d k rec a) l)
unfolding walked
stays c t d k rec a l s f i small h b =
    record {
      under = λ x y p q r. visits-below t.depth t.e t.i t.levels (line_in c t.masks d k rec a) l h
          (walkable c t d k rec a (length l) s f i small) (in-range c t d k rec a (length l) (2 ^ t.depth) s f i small l b) 32 (y * c.stride + x) (b.under x y p q r);
    }
