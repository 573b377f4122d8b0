-- A unit of a plane: its bit lies in the masks and its level byte in the levels, and what is written for it is its edge, in luma and in chroma and the pass.
use mathlib.Core.Bool.{Bool, true, false, cond, ◌&&◌}
use mathlib.Core.List.{List, [], ◌∷◌, append-nil}
use mathlib.Core.Option.{Option, some, none}
use mathlib.Core.Path.{◌≡◌, refl, sym, ap, ap₂, ◌∙◌, subst}
use Prim.Native.Nat.{ℕ, ◌+◌, ◌*◌, ◌/◌, ◌^◌, ◌≤◌, ◌<◌}
use native.Mathlib.Omega.{arith}
use borrow.Author.Tests.{eq-eqb, ne_eqb, lt-ltb}
use lib.Dec.{eqb}
use lib.ListN.{length, get_or}
use mir.Val.{bool_byte}
use Rattle.loops.proofs.Products.{prod-le}
use Rattle.plane.specs.Line.{Pass, columns, rows, other, pass_no, pass_of}
use Rattle.plane.specs.Plane.{unit}
use Rattle.units.specs.Frame.{records, frame_records}
use Rattle.units.specs.Layout.{ss_hor, ss_ver}
use Rattle.units.specs.Memory.{level_at}
use Rattle.units.specs.Units.{chroma_units}
use Rattle.units.proofs.Places.{ss-hor-le, ss-ver-le, level_in_lem, pass-lt}
use Rattle.edges.specs.Edges.{Grid, Proper, grid_of, luma_grid, chroma_grid, units_of, edge_bit, in_frame, edge}
use Rattle.list_text.specs.declared.Text.{Text}
use Rattle.list_text.specs.Text.{edge_text}
use Rattle.edges.specs.Bit.{Near}
use Rattle.edges.specs.Class.{no_class, class_no, class_in}
use Rattle.edges.proofs.EdgeBits.{unit-near, class-bit-in}
use Rattle.edges.proofs.Classes as classes
use Rattle.list_edges.specs.Listed.{Held, Edge, grid_in, area, level_in, edge_in, found, edges_at, line_text, lines_text}
use Rattle.list_put.specs.declared.Part.{Part}
use Rattle.list_put.specs.Written.{held_in, grid_at, Has, Puts, Inside, Room, Wrote}
use Rattle.list_put.proofs.Lengths.{Short, wide-le, high_le}
use Rattle.list_put.proofs.Writes.{wrote_none, wrote_one}

-- ---- the plane

module _ (p : Part) where
  abbrev area_of : Bool → Grid
  area_of b = cond b (luma_grid p.frame.w4.0 p.frame.h4.0) (chroma_grid (ss_hor p.frame.layout) (ss_ver p.frame.layout) p.frame.w4.0 p.frame.h4.0)

  pub hor-is : {r : ℕ} → r ≡ cond (eqb p.plane 0) 0 (ss_hor p.frame.layout) → r ≡ (grid_at p).ss-hor
  hor-is e = e ∙ go (eqb p.plane 0)
    where
      go : (b : Bool) → cond b 0 (ss_hor p.frame.layout) ≡ (area_of b).ss-hor
      go true = refl
      go false = refl

  pub ver-is : {r : ℕ} → r ≡ cond (eqb p.plane 0) 0 (ss_ver p.frame.layout) → r ≡ (grid_at p).ss-ver
  ver-is e = e ∙ go (eqb p.plane 0)
    where
      go : (b : Bool) → cond b 0 (ss_ver p.frame.layout) ≡ (area_of b).ss-ver
      go true = refl
      go false = refl

  grid-is : grid_of (eqb p.plane 0) (grid_at p).ss-hor (grid_at p).ss-ver p.frame.w4.0 p.frame.h4.0 ≡ grid_at p
  grid-is = go (eqb p.plane 0)
    where
      go : (b : Bool) → grid_of b (area_of b).ss-hor (area_of b).ss-ver p.frame.w4.0 p.frame.h4.0 ≡ area_of b
      go true = refl
      go false = refl

  pub proper : Proper (grid_at p)
  proper = go (eqb p.plane 0)
    where
      go : (b : Bool) → Proper (area_of b)
      go true = record { ss-hor-le = omega arith; ss-ver-le = omega arith; luma-x = λ e. refl; luma-y = λ e. refl }
      go false =
          record {
            ss-hor-le = ss-hor-le p.frame.layout;
            ss-ver-le = ss-ver-le p.frame.layout;
            luma-x = λ e. let z : ◌≡◌ {A = ℕ} 0 1 = cc in absurd (omega arith);
            luma-y = λ e. let z : ◌≡◌ {A = ℕ} 0 1 = cc in absurd (omega arith);
          }

  pub wide_is : (r h : ℕ) → h ≡ (grid_at p).ss-hor → r ≡ chroma_units h p.frame.w4.0 → r ≡ units_of (grid_at p) columns
  wide_is r h e q = q ∙ ap₂ chroma_units e (ap (λ (G : Grid). G.w4) grid-is)

  pub high_is : (r v : ℕ) → v ≡ (grid_at p).ss-ver → r ≡ chroma_units v p.frame.h4.0 → r ≡ units_of (grid_at p) rows
  high_is r v e q = q ∙ ap₂ chroma_units e (ap (λ (G : Grid). G.h4) grid-is)

-- ---- its bit

module _ (p : Part) (x y : ℕ) (i : Inside p x y) where
  abbrev d : Pass
  d = pass_of p.rowwise

  in_frame_lem : (d : Pass) → ((unit d x y).0 < units_of (grid_at p) d) × ((unit d x y).1 < units_of (grid_at p) (other d))
  in_frame_lem columns = (i.x-in, i.y-in)
  in_frame_lem rows = (i.y-in, i.x-in)

  is-in : in_frame (grid_at p) d (unit d x y) ≡ true
  is-in =
      ap₂ ◌&&◌ (lt-ltb (unit d x y).0 (units_of (grid_at p) d) (in_frame_lem d).0) (lt-ltb (unit d x y).1 (units_of (grid_at p) (other d)) (in_frame_lem d).1)

  w4-is : (grid_at p).w4 ≡ p.frame.w4.0
  w4-is = sym (ap (λ (G : Grid). G.w4) (grid-is p))

  h4-is : (grid_at p).h4 ≡ p.frame.h4.0
  h4-is = sym (ap (λ (G : Grid). G.h4) (grid-is p))

  pub near : (h v a l : ℕ) → h ≡ (grid_at p).ss-hor → v ≡ (grid_at p).ss-ver → a ≡ (unit d x y).0 → l ≡ (unit d x y).1 → Near h v p.frame.w4.0 a l
  near h v a l e f g k =
      let n =
      unit-near (grid_at p) (proper p) (omega (arith, w4-is, i.width)) (omega (arith, h4-is, i.height)) d (unit d x y) (in_frame_lem d).0 (in_frame_lem d).1
      in
      record {
        hor-le = omega (arith, n.hor-le);
        ver-le = omega (arith, n.ver-le);
        width = omega (arith, i.width);
        across-le = omega (arith, n.across-le);
        along-le = omega (arith, n.along-le);
      }

  pub bit_is : (h v a l r : ℕ) → h ≡ (grid_at p).ss-hor → v ≡ (grid_at p).ss-ver → a ≡ (unit d x y).0 → l ≡ (unit d x y).1
      → r ≡ edge_bit (grid_of (eqb p.plane 0) h v p.frame.w4.0 p.frame.h4.0) d (a, l) 0 → r ≡ edge_bit (grid_at p) d (unit d x y) 0
  bit_is h v a l r e f g k q =
      q
      ∙ ap₂ (λ (m n : ℕ). edge_bit (grid_of (eqb p.plane 0) m n p.frame.w4.0 p.frame.h4.0) d (a, l) 0) e f
      ∙ ap₂ (λ (m n : ℕ). edge_bit (grid_of (eqb p.plane 0) (grid_at p).ss-hor (grid_at p).ss-ver p.frame.w4.0 p.frame.h4.0) d (m, n) 0) g k
      ∙ ap (λ (G : Grid). edge_bit G d (unit d x y) 0) (grid-is p)

  bit-lt : (c : ℕ) → c < cond (grid_at p).luma 4 2 → edge_bit (grid_at p) d (unit d x y) 0 + 32 * c < 10240 * frame_records p.frame.w4.0 p.frame.h4.0
  bit-lt c h =
      let z : frame_records (grid_at p).w4 (grid_at p).h4 ≡ frame_records p.frame.w4.0 p.frame.h4.0 = ap₂ frame_records w4-is h4-is in
      omega (arith, class-bit-in (grid_at p) (proper p) d (unit d x y) c (in_frame_lem d).0 (in_frame_lem d).1 h)

  records-le : frame_records p.frame.w4.0 p.frame.h4.0 ≤ 4
  records-le = prod-le (records p.frame.w4.0) (records p.frame.h4.0) 2 2 (omega (arith, i.width)) (omega (arith, i.height))

  luma : p.plane ≡ 0 → (grid_at p).luma ≡ true
  luma e = sym (ap (λ (G : Grid). G.luma) (grid-is p)) ∙ eq-eqb p.plane 0 e

  chroma : ¬ (p.plane ≡ 0) → (grid_at p).luma ≡ false
  chroma n = sym (ap (λ (G : Grid). G.luma) (grid-is p)) ∙ ne_eqb p.plane 0 n

  module _ (e : ℕ) (q : e ≡ edge_bit (grid_at p) d (unit d x y) 0) where
    room : (c len : ℕ) → c < cond (grid_at p).luma 4 2 → 640 * frame_records p.frame.w4.0 p.frame.h4.0 ≤ len → (e < 1099511627776) × ((e + 32 * c) / 16 < len)
    room c len h m = (omega (arith, bit-lt c h, records-le), omega (arith, bit-lt c h))

    pub luma-room : (len : ℕ) → p.plane ≡ 0 → 640 * frame_records p.frame.w4.0 p.frame.h4.0 ≤ len → (e < 1099511627776) × ((e + 64) / 16 < len)
    luma-room len z m = room 2 len (subst (λ (b : Bool). 2 < cond b 4 2) (sym (luma z)) (omega arith)) m

    pub chroma-room : (len : ℕ) → ¬ (p.plane ≡ 0) → 640 * frame_records p.frame.w4.0 p.frame.h4.0 ≤ len → (e < 1099511627776) × ((e + 32) / 16 < len)
    chroma-room len n m = room 1 len (subst (λ (b : Bool). 1 < cond b 4 2) (sym (chroma n)) (omega arith)) m

    -- ---- its class

    class-is : (b : Bool) (ms : List ℕ) (r : ℕ) → (grid_at p).luma ≡ b → r ≡ class_in ms (cond b 3 2) e → r ≡ class_no (edge (grid_at p) ms d (unit d x y))
    class-is b ms r z f =
        f
        ∙ ap₂ (λ (k : Bool) (m : ℕ). class_in ms (cond k 3 2) m) (sym z) q
        ∙ (classes.promises).same (grid_at p) ms d (unit d x y) is-in

    pub luma-class : (ms : List ℕ) (r : ℕ) → p.plane ≡ 0 → r ≡ class_in ms 3 e → r ≡ class_no (edge (grid_at p) ms d (unit d x y))
    luma-class ms r z f = class-is true ms r (luma z) f

    pub chroma-class : (ms : List ℕ) (r : ℕ) → ¬ (p.plane ≡ 0) → r ≡ class_in ms 2 e → r ≡ class_no (edge (grid_at p) ms d (unit d x y))
    chroma-class ms r n f = class-is false ms r (chroma n) f

  -- ---- its level

  area-lt : area p.plane d < 4
  area-lt = go (eqb p.plane 0)
    where
      go : (b : Bool) → cond b (pass_no d) (p.plane + 1) < 4
      go true = omega (arith, pass-lt d)
      go false = omega (arith, i.plane-in)

  level-lt : (k len : ℕ) → k < 4 → 4 * p.frame.w4.0 * p.frame.h4.0 ≤ len → level_at p.frame.w4.0 x y k < len
  level-lt k len h m =
      level_in_lem len p.frame.w4.0 p.frame.w4.0 p.frame.h4.0 x y k (omega arith) m (omega (arith, i.x-in, wide-le (held_in p [] []) p.plane))
      (omega (arith, i.y-in, high_le (held_in p [] []) p.plane)) h

  pub level-small : (k : ℕ) → k < 4 → level_at p.frame.w4.0 x y k < 2 ^ 64
  level-small k h =
      omega (arith, level-lt k (4 * p.frame.w4.0 * p.frame.h4.0) h (omega arith), prod-le (4 * p.frame.w4.0) p.frame.h4.0 256 64 (omega (arith, i.width)) i.height)

  pub level-there : (k len : ℕ) → k ≡ level_at p.frame.w4.0 x y (area p.plane d) → 4 * p.frame.w4.0 * p.frame.h4.0 ≤ len → k < len
  level-there k len e m = omega (arith, level-lt (area p.plane d) len area-lt m)

pub pass-no : (b : Bool) → bool_byte b ≡ pass_no (pass_of b)
pass-no true = refl
pass-no false = refl

pub luma-area : (p : Part) (r x y : ℕ) → p.plane ≡ 0 → r ≡ level_at p.frame.w4.0 x y (bool_byte p.rowwise)
    → r ≡ level_at p.frame.w4.0 x y (area p.plane (pass_of p.rowwise))
luma-area p r x y e q =
    q
    ∙ ap (λ (k : ℕ). level_at p.frame.w4.0 x y k)
    (pass-no p.rowwise ∙ ap (λ (b : Bool). cond b (pass_no (pass_of p.rowwise)) (p.plane + 1)) (sym (eq-eqb p.plane 0 e)))

pub chroma-area : (p : Part) (r x y : ℕ) → ¬ (p.plane ≡ 0) → r ≡ level_at p.frame.w4.0 x y (p.plane + 1)
    → r ≡ level_at p.frame.w4.0 x y (area p.plane (pass_of p.rowwise))
chroma-area p r x y n q =
    q
    ∙ ap (λ (k : ℕ). level_at p.frame.w4.0 x y k) (ap (λ (b : Bool). cond b (pass_no (pass_of p.rowwise)) (p.plane + 1)) (sym (ne_eqb p.plane 0 n)))

-- ---- what is written for it

no-class : (o : Option ℕ) (c : ℕ) → c ≡ class_no o → ((k : ℕ) → o ≡ some k → k < no_class) → c ≡ no_class → o ≡ none
no-class none c e h z = refl
no-class (some k) c e h z = absurd (omega (arith, h k refl))

some-class : (o : Option ℕ) (c : ℕ) → c ≡ class_no o → ¬ (c ≡ no_class) → o ≡ some c
some-class none c e n = absurd (n e)
some-class (some k) c e n = ap some (sym e)

module _ (s : Held) (p : ℕ) (d : Pass) (x y : ℕ) where
  abbrev at : Option ℕ
  at = edge (grid_in s p) s.masks d (unit d x y)

  first-none : (unit d x y).0 ≡ 0 → [] ≡ edges_at s p d x y
  unfolding edges_at
  first-none e = ap (λ (b : Bool). cond b [] (found at (edge_in s p d x y))) (sym (eq-eqb (unit d x y).0 0 e))

  inner-is : ¬ ((unit d x y).0 ≡ 0) → (o : Option ℕ) → at ≡ o → found o (edge_in s p d x y) ≡ edges_at s p d x y
  unfolding edges_at
  inner-is n o e =
      ap (λ (u : Option ℕ). found u (edge_in s p d x y)) (sym e)
      ∙ ap (λ (b : Bool). cond b [] (found at (edge_in s p d x y))) (sym (ne_eqb (unit d x y).0 0 n))

  level-is : (k l : ℕ) → k ≡ level_at s.level-stride x y (area p d) → l ≡ get_or s.levels k 0 → l ≡ level_in s p d x y
  unfolding level_in
  level-is k l e f = f ∙ ap (λ (n : ℕ). get_or s.levels n 0) e

  module _ (b : Text) (i : ℕ) (u : ℕ) (h : u ≡ (unit d x y).0) where
    pub wrote-first : u ≡ 0 → Wrote b i (edges_at s p d x y) b i
    wrote-first e = subst (λ (l : List Edge). Wrote b i l b i) (first-none (sym h ∙ e)) (wrote_none b i)

    module _ (c : ℕ) (q : c ≡ class_no at) (n : ¬ (u ≡ 0)) where
      pub wrote-no-edge : c ≡ no_class → Wrote b i (edges_at s p d x y) b i
      wrote-no-edge z =
          subst (λ (l : List Edge). Wrote b i l b i)
          (inner-is (λ e. n (h ∙ e)) none (no-class at c q (classes.class-lt (grid_in s p) s.masks d (unit d x y)) z)) (wrote_none b i)

      module _ (k t l : ℕ) (m : ¬ (c ≡ no_class)) (f : t ≡ pass_no d) (g : k ≡ level_at s.level-stride x y (area p d)) (j : l ≡ get_or s.levels k 0) where
        edge-is : edge_in s p d x y c ∷ [] ≡ edges_at s p d x y
        edge-is = inner-is (λ e. n (h ∙ e)) (some c) (some-class at c q m)

        text-is : edge_text p t x y c l ≡ line_text (edge_in s p d x y c)
        text-is = ap₂ (λ (i j : ℕ). edge_text p i x y c j) f (level-is k l g j)

        pub edge-room : Short 1 (edges_at s p d x y) → Room b i 1 → Has b (length (edge_text p t x y c l))
        edge-room z r =
            omega (
              arith,
              ap length text-is,
              ap length (append-nil (line_text (edge_in s p d x y c))),
              ap (λ (l : List Edge). length (lines_text l)) edge-is,
              z.text,
              r.text,
            )

        pub wrote-edge : (v : Text) → Puts b (edge_text p t x y c l) v → Wrote b i (edges_at s p d x y) v (i + 1)
        wrote-edge v z =
            subst (λ (l : List Edge). Wrote b i l v (i + 1)) edge-is
            (wrote_one b v i (edge_in s p d x y c) (subst (λ (t : List ℕ). Puts b t v) text-is z))
