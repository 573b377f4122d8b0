-- What the leaves of a line answer: words and level bytes in luma and in chroma and the count of halves, and products of bounds.
use mathlib.Core.Path.{◌≡◌, refl, ap, ap₂, ◌∙◌}
use mathlib.Core.Bool.{Bool, true, false, cond}
use mathlib.Core.List.{List}
use mathlib.Core.Logic.{◌≢◌}
use Prim.Native.Nat.{ℕ, suc, ◌+◌, ◌*◌, ◌/◌, ◌^◌, ◌≤◌, ◌<◌}
use native.Mathlib.Nat.{mul_assoc}
use native.Mathlib.Numerals.{add-one}
use native.Mathlib.Omega.{arith}
use lib.Dec.{eqb}
use lib.ListN.{get_or}
use borrow.Author.Tests.{eq-eqb, ne_eqb, lt-ltb, le-ltb}
use Rattle.loops.proofs.Products.{prod-le}
use Rattle.plane.specs.Line.{Pass, columns, rows, line_step, sample_step}
use Rattle.units.specs.Frame.{records}
use Rattle.units.specs.Masks.{unit_words, pass_start, record_row, two_halves}
use Rattle.units.specs.Memory.{level_at}
use Rattle.units.specs.Units.{chroma_unit}
use Rattle.edges.specs.Edges.{half}
use Rattle.walk.specs.declared.UnitLine.{UnitLine}
use Rattle.units.proofs.Places.{side-le, rows-le, pass-in}
use Rattle.gap.proofs.Masks.{along}
use Rattle.gap.proofs.Shapes.{row-lines}
use Rattle.filter.specs.declared.Component.{Component}
use Rattle.filter.specs.Filter.{grid_of, area_of}
use Rattle.filter.specs.Lines.{left_of, top_of, across_of, unit_in, mask_at, start_half, halves_of, halves_at, class_at, line_mask, along_step, back_step, line_in, Counted}

pub left_le : (ss-hor rec : ℕ) → ss-hor ≤ 1 → rec ≤ 128 → rec * (32 / 2 ^ ss-hor) ≤ 4096
left_le ss-hor rec h l = prod-le rec (32 / 2 ^ ss-hor) 128 32 l (side-le ss-hor h)

-- a sample's place, by units and by samples
pub four-of : (s x y a b : ℕ) → a ≡ 4 * x → b ≡ 4 * y → b * s + a ≡ 4 * (y * s + x)
four-of s x y a b p q = rw (p, q) (omega (arith, mul_assoc 4 y s))

-- ---- halves and classes

module _ (ms : List ℕ) (at first n h : ℕ) where
  pub both_halves : n ≡ 2 → two_halves (get_or ms at 0) (get_or ms (at + 1) 0) h ≡ halves_at ms at first n h
  unfolding halves_at
  both_halves e = rw (eq-eqb n 2 e) refl

  pub one-half : n ≢ 2 → get_or ms (at + first) 0 ≡ halves_at ms at first n h
  unfolding halves_at
  one-half e = rw (ne_eqb n 2 e) refl

module _ (ms : List ℕ) (luma : Bool) (at first n h class : ℕ) where
  pub luma-class : luma ≡ true → class < 3 → halves_at ms (at + 2 * class) first n h ≡ class_at ms luma at first n h class
  unfolding class_at
  luma-class e l = rw (e, lt-ltb class 3 l) refl

  pub chroma-class : luma ≡ false → class < 2 → halves_at ms (at + 2 * class) first n h ≡ class_at ms luma at first n h class
  unfolding class_at
  chroma-class e l = rw (e, lt-ltb class 2 l) refl

  pub no-class : luma ≡ false → 2 ≤ class → 0 ≡ class_at ms luma at first n h class
  unfolding class_at
  no-class e l = rw (e, le-ltb class 2 l) refl

pub step-luma : (luma : Bool) → luma ≡ true → unit_words luma ≡ 6
step-luma luma e = rw e refl

pub step-chroma : (luma : Bool) → luma ≡ false → unit_words luma ≡ 4
step-chroma luma e = rw e refl

-- ---- level bytes

pub area-luma : (plane pass : ℕ) → plane ≡ 0 → cond (eqb plane 0) pass (suc plane) ≡ pass
area-luma plane pass e = rw (eq-eqb plane 0 e) refl

pub area-chroma : (plane pass : ℕ) → plane ≢ 0 → cond (eqb plane 0) pass (suc plane) ≡ plane + 1
area-chroma plane pass e = rw (ne_eqb plane 0 e, add-one plane) refl

-- ---- masks

pub step-le : (luma : Bool) → unit_words luma ≤ 6
step-le true = omega arith
step-le false = omega arith

pub units-le : (luma : Bool) (unit : ℕ) → unit ≤ 32 → unit_words luma * unit ≤ 192
units-le luma unit h = prod-le (unit_words luma) unit 6 32 (step-le luma) h

-- ---- a line

module _ (c : Component) (d : Pass) (k rec a : ℕ) where
  pub mask_is : (m unit : ℕ) → unit ≡ unit_in c d k a
      → m ≡ 640 * (record_row c.sb4.0 k * records c.w4.0 + rec) + pass_start (eqb c.plane 0) d + unit_words (eqb c.plane 0) * unit
      → m ≡ mask_at c d k rec a
  unfolding mask_at
  mask_is m unit eu e =
      e
      ∙ ap (λ (n : ℕ).
      640 * (record_row c.sb4.0 k * records c.w4.0 + rec) + pass_start (eqb c.plane 0) d + unit_words (eqb c.plane 0) * n) eu

  module _ (len : ℕ) (f : Counted c d k rec a len) where
    first-le : start_half c d k ≤ 1
    first-le = go d
      where
        go : (d : Pass) → start_half c d k ≤ 1
        go columns = omega arith
        go rows = omega arith

    -- the unit is one of its record's
    pub unit-lt : unit_in c d k a < 32
    unit-lt = go d f.unit
      where
        go : (d : Pass) → a < across_of c d → unit_in c d k a < 32
        go columns l = omega (arith, side-le c.ss_hor f.proper.ss-hor-le)
        go rows l = omega (arith, side-le c.ss_ver f.proper.ss-ver-le, (row-lines c.ss_ver 4096 c.sb4.0 k f.proper.ss-ver-le f.size f.row).room)

    -- its place is a number of units
    pub near : (left_of c d rec a < 65536) × (top_of c d k a < 65536)
    near = go d unit-lt
      where
        left : rec * (32 / 2 ^ c.ss_hor) ≤ 4096
        left = left_le c.ss_hor rec f.proper.ss-hor-le (omega (arith, f.rec-in, f.width))

        top : k * chroma_unit c.ss_ver c.sb4.0 < 4096
        top = rows-le c.ss_ver k c.sb4.0 4096 _ f.proper.ss-ver-le f.row refl

        go : (d : Pass) → unit_in c d k a < 32 → (left_of c d rec a < 65536) × (top_of c d k a < 65536)
        go columns l = (omega (arith, left), omega (arith, top))
        go rows l = (omega (arith, left), omega (arith, top))

    mask-room : mask_at c d k rec a + unit_words (eqb c.plane 0) ≤ len
    unfolding mask_at
    mask-room =
        omega (
          arith,
          f.masks,
          pass-in (eqb c.plane 0) d,
          room (eqb c.plane 0) (unit_in c d k a) unit-lt,
        )
      where
        room : (luma : Bool) (u : ℕ) → u < 32 → unit_words luma * u + unit_words luma ≤ unit_words luma * 32
        room true u l = omega arith
        room false u l = omega arith

    pub class-asks : (m first h class : ℕ) → m ≡ mask_at c d k rec a → first ≡ start_half c d k → h ≡ half (grid_of c) d → class < 3
        → (m + unit_words (eqb c.plane 0) ≤ len) × (first ≤ 1) × (h ≤ 16) × (class < 3)
    class-asks m first h class em ef eh l =
        (omega (arith, mask-room, em), omega (arith, first-le, ef), omega (arith, (along (grid_of c) f.proper d).most, eh), l)

  module _ (ms : List ℕ) (x y m first n h : ℕ) (ex : x ≡ left_of c d rec a) (ey : y ≡ top_of c d k a) (em : m ≡ mask_at c d k rec a)
      (ef : first ≡ start_half c d k) (en : n ≡ halves_of c d) (eh : h ≡ half (grid_of c) d) where
    class-is : (class w : ℕ) → w ≡ class_at ms (eqb c.plane 0) m first n h class → w ≡ line_mask c ms d k rec a class
    class-is class w e = e ∙ (λ j. class_at ms (eqb c.plane 0) (em j) (ef j) (en j) (eh j) class)

    pub line-make : (q m0 m1 m2 classes at : ℕ) → q ≡ 4 * (y * c.stride + x) → m0 ≡ class_at ms (eqb c.plane 0) m first n h 0
        → m1 ≡ class_at ms (eqb c.plane 0) m first n h 1 → m2 ≡ class_at ms (eqb c.plane 0) m first n h 2 → classes ≡ cond (eqb c.plane 0) 3 2
        → at ≡ level_at c.level_stride x y (area_of c d) → ◌≡◌ {A = UnitLine}
        (record {
          q = q;
          line_step = line_step d c.stride;
          sample_step = sample_step d c.stride;
          m0 = m0;
          m1 = m1;
          m2 = m2;
          classes = classes;
          at = at;
          along = along_step c d;
          back = back_step c d;
        })
        (line_in c ms d k rec a)
    line-make q m0 m1 m2 classes at eq e0 e1 e2 ec el =
        let fq : q ≡ 4 * (top_of c d k a * c.stride + left_of c d rec a) = eq ∙ ap₂ (λ (v u : ℕ). 4 * (v * c.stride + u)) ey ex in
        let fl : at ≡ level_at c.level_stride (left_of c d rec a) (top_of c d k a) (area_of c d) = el
        ∙ ap₂ (λ (u v : ℕ). level_at c.level_stride u v (area_of c d)) ex ey in
        (λ j. record {
          q = fq j;
          line_step = line_step d c.stride;
          sample_step = sample_step d c.stride;
          m0 = class-is 0 m0 e0 j;
          m1 = class-is 1 m1 e1 j;
          m2 = class-is 2 m2 e2 j;
          classes = ec j;
          at = fl j;
          along = along_step c d;
          back = back_step c d;
        })
