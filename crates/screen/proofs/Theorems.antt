-- The screen in units: 4 * u * 2 ^ ss samples lie before the frame's end exactly if u lies below its units, rounded up twice; and a block that is cut there shows
-- exactly those of its units.
use mathlib.Core.Path.{◌≡◌, refl, sym, ap, ap₂, ◌∙◌}
use mathlib.Core.Bool.{Bool, true, not, ◌&&◌, false≢true, and-eq-true_iff}
use mathlib.Core.Logic.{by_cases}
use Prim.Native.Nat.{ℕ, zero, suc, ◌+◌, ◌-◌, ◌*◌, ◌^◌, ◌≤◌, ◌<◌, min}
use native.Mathlib.Nat.{mul-le-mul_left, one-le-pow}
use native.Mathlib.Decide.{ℕ_discrete}
use native.Mathlib.Omega.{arith}
use lib.Dec.{eqb, ltb}
use borrow.Author.Tests.{lt-ltb, ltb-true, eq-eqb, ne_eqb}
use Rattle.loops.specs.Exactly.{Exactly}
use Rattle.standard.specs.Edge.{Frame, on_screen}
use Rattle.units.specs.Units.{chroma_unit, chroma_units}
use Rattle.units.proofs.Places.{ss-hor-le, ss-ver-le}
use Rattle.block.specs.declared.Block.{Block}
use Rattle.block.specs.Block.{w4, h4, block_width, block_height, ss-hor, ss-ver, bw4, bh4, chroma_side, cbw4, cbh4}
use Rattle.record.specs.Recorded.{LumaSeen, ChromaSeen}
use Rattle.screen.specs.Screen.{unit_on_screen, plane_units, UnitInFrame, AtStart, of-columns, of-rows, TakenIn, UnitOf}
use Rattle.screen.specs.Promises.{Promises}

-- ---- one direction

before-end : (ss u side : ℕ) → ss ≤ 1 → Exactly (4 * (u * 2 ^ ss) < side) (u < plane_units ss side)
before-end zero u side h = record { only = λ l. omega arith; always = λ l. omega arith }
before-end (suc zero) u side h = record { only = λ l. omega arith; always = λ l. omega arith }
before-end (suc (suc s)) u side h = absurd (omega arith)

-- the test of pass k: not unit 0
inner : (pass k u ss : ℕ) → Exactly (not (eqb pass k && eqb (4 * (u * 2 ^ ss)) 0) ≡ true) (¬ ((pass ≡ k) × (u ≡ 0)))
inner pass k u ss =
    record {
      only = λ e z. let w : 4 * (u * 2 ^ ss) ≡ 0 = ap (λ (v : ℕ). 4 * (v * 2 ^ ss)) z.1 ∙ omega arith in
          false≢true (sym (rw (eq-eqb pass k z.0, eq-eqb (4 * (u * 2 ^ ss)) 0 w) refl) ∙ e);
      always = λ n. by_cases (ℕ_discrete pass k)
          (λ e. rw (eq-eqb pass k e, ne_eqb (4 * (u * 2 ^ ss)) 0 (λ w. n (e, none w))) refl)
          (λ e. rw (ne_eqb pass k e) refl);
    }
  where
    none : 4 * (u * 2 ^ ss) ≡ 0 → u ≡ 0
    none w = omega (arith, mul-le-mul_left u (one-le-pow ss 2 (omega arith)))

-- ---- the screen

module _ (D : Frame) (plane pass x y : ℕ) (hor : D.sx plane ≤ 1) (ver : D.sy plane ≤ 1) where
  abbrev right : Bool
  right = ltb (4 * (x * 2 ^ D.sx plane)) D.FrameWidth

  abbrev low : Bool
  low = ltb (4 * (y * 2 ^ D.sy plane)) D.FrameHeight

  abbrev no-column : Bool
  no-column = not (eqb pass 0 && eqb (4 * (x * 2 ^ D.sx plane)) 0)

  abbrev no_row : Bool
  no_row = not (eqb pass 1 && eqb (4 * (y * 2 ^ D.sy plane)) 0)

  in-units : (right && low && no-column && no_row) ≡ true → UnitInFrame D plane x y × (¬ AtStart pass x y)
  in-units e =
      let a = (and-eq-true_iff (right && low && no-column) no_row).0 e in
      let b = (and-eq-true_iff (right && low) no-column).0 a.0 in
      let c = (and-eq-true_iff right low).0 b.0 in (
        record {
          across = (before-end (D.sx plane) x D.FrameWidth hor).only (ltb-true _ _ c.0);
          down = (before-end (D.sy plane) y D.FrameHeight ver).only (ltb-true _ _ c.1);
        },
        apart b.1 a.1,
      )
    where
      apart : no-column ≡ true → no_row ≡ true → ¬ AtStart pass x y
      apart f g (of-columns p z) = (inner pass 0 x (D.sx plane)).only f (p, z)
      apart f g (of-rows p z) = (inner pass 1 y (D.sy plane)).only g (p, z)

  in-samples : UnitInFrame D plane x y → ¬ AtStart pass x y → (right && low && no-column && no_row) ≡ true
  in-samples i n =
      ap₂ ◌&&◌
      (ap₂ ◌&&◌
      (ap₂ ◌&&◌ (lt-ltb _ _ ((before-end (D.sx plane) x D.FrameWidth hor).always i.across))
      (lt-ltb _ _ ((before-end (D.sy plane) y D.FrameHeight ver).always i.down)))
      ((inner pass 0 x (D.sx plane)).always (λ z. n (of-columns z.0 z.1))))
      ((inner pass 1 y (D.sy plane)).always (λ z. n (of-rows z.0 z.1)))

  on-screen : Exactly (unit_on_screen D plane pass x y ≡ true) (UnitInFrame D plane x y × (¬ AtStart pass x y))
  unfolding on_screen
  on-screen = record { only = in-units; always = λ i. in-samples i.0 i.1 }

-- ---- a block's units

-- of a side of n units from `at` on, cut at `all`: those before it
cut : (all at n u : ℕ) → (at ≤ u) × (u < at + n) → Exactly ((at ≤ u) × (u < at + min (all - at) n)) (u < all)
cut all at n u h = record { only = λ l. omega arith; always = λ l. omega arith }

module _ (D : Frame) (plane : ℕ) (b : Block) (hor ver : ℕ) (t : TakenIn D plane b hor ver) (x y : ℕ) (u : UnitOf D plane b x y) where
  across : Exactly ((chroma_unit hor b.x.0 ≤ x) × (x < chroma_unit hor b.x.0 + chroma_side (w4 b) b.x.0 (block_width b) hor))
      (x < plane_units (D.sx plane) D.FrameWidth)
  across =
      rw (t.width, t.right-ss)
      (cut (chroma_units hor (w4 b)) (chroma_unit hor b.x.0) (chroma_units hor (block_width b)) x (rw t.right-ss at u.across))

  down : Exactly ((chroma_unit ver b.y.0 ≤ y) × (y < chroma_unit ver b.y.0 + chroma_side (h4 b) b.y.0 (block_height b) ver))
      (y < plane_units (D.sy plane) D.FrameHeight)
  down =
      rw (t.height, t.down-ss)
      (cut (chroma_units ver (h4 b)) (chroma_unit ver b.y.0) (chroma_units ver (block_height b)) y (rw t.down-ss at u.down))

luma : (D : Frame) (b : Block) → TakenIn D 0 b 0 0 → (x y : ℕ) → UnitOf D 0 b x y → Exactly (LumaSeen b x y) (UnitInFrame D 0 x y)
unfolding bw4 bh4
luma D b t x y u =
    let a = across D 0 b 0 0 t x y u in
    let d = down D 0 b 0 0 t x y u in
    record {
      only = λ s. record { across = a.only (omega (arith, s.across)); down = d.only (omega (arith, s.down)) };
      always = λ i. record { across = omega (arith, a.always i.across); down = omega (arith, d.always i.down) };
    }

chroma : (D : Frame) (plane : ℕ) (b : Block) → TakenIn D plane b (ss-hor b) (ss-ver b) → b.chroma ≡ true → (x y : ℕ) → UnitOf D plane b x y
    → Exactly (ChromaSeen b x y) (UnitInFrame D plane x y)
unfolding cbw4 cbh4
chroma D plane b t g x y u =
    let a = across D plane b (ss-hor b) (ss-ver b) t x y u in
    let d = down D plane b (ss-hor b) (ss-ver b) t x y u in
    record {
      only = λ s. record { across = a.only s.across; down = d.only s.down };
      always = λ i. record { given = g; across = a.always i.across; down = d.always i.down };
    }

-- past unit 0 the frame is the screen
past : (D : Frame) (plane pass x y : ℕ) → D.sx plane ≤ 1 → D.sy plane ≤ 1 → ¬ AtStart pass x y → (A : Type 0) → Exactly A (UnitInFrame D plane x y)
    → Exactly A (unit_on_screen D plane pass x y ≡ true)
past D plane pass x y hor ver n A e =
    let s = on-screen D plane pass x y hor ver in
    record { only = λ a. s.always (e.only a, n); always = λ o. e.always (s.only o).0 }

pub promises : Promises
promises =
    record {
      screen = on-screen;
      luma = luma;
      chroma = chroma;
      luma-screen = λ D b t pass x y u n.
          past D 0 pass x y (omega (arith, t.right-ss)) (omega (arith, t.down-ss)) n (LumaSeen b x y) (luma D b t x y u);
      chroma-screen = λ D plane b t g pass x y u n.
          past D plane pass x y (omega (arith, t.right-ss, ss-hor-le b.layout)) (omega (arith, t.down-ss, ss-ver-le b.layout)) n (ChromaSeen b x y)
          (chroma D plane b t g x y u);
    }
