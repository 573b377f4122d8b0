-- A tile's start as the code finds it: its units lie in the frame, since its superblocks do, in luma and in chroma and in each pass.
use mathlib.Core.Path.{◌≡◌, refl, ap}
use mathlib.Core.Bool.{Bool, true, false, cond, not, ◌&&◌, ◌||◌, and-eq-true_iff}
use mathlib.Core.Logic.{◌⊎◌, inl, inr, ⊎_elim}
use Prim.Native.Nat.{ℕ, ◌+◌, ◌*◌, ◌/◌, ◌≤◌, ◌<◌, min}
use native.Mathlib.Nat.{add-mul}
use native.Mathlib.Omega.{arith}
use lib.Dec.{ltb}
use borrow.Author.Tests.{ltb-true, not-false}
use Rattle.units.specs.Units.{chroma_unit, chroma_units}
use Rattle.units.specs.Layout.{layout_ok, has_chroma, ss_hor, ss_ver}
use Rattle.units.specs.Frame.{frame_ok, superblock_ok, superblocks}
use Rattle.units.proofs.Places.{ss-hor-le, ss-ver-le, chroma-unit-in, superblock-in}
use Rattle.units.proofs.Tests.{reflects-frame, reflects-superblock}
use Rattle.loops.proofs.Bools.{or_off}
use Rattle.edges.specs.Edges.{Proper}
use Rattle.correct.specs.declared.Start.{Start}
use Rattle.correct.specs.Start.{w4, h4, sb4, grid_at, begin, first, end, inside, corrects, Shaped, Inside}
use Rattle.correct.specs.Tests.{shape_bad}

-- ---- the plane

plane-ss-le : (luma : Bool) (ss : ℕ) → ss ≤ 1 → cond luma 0 ss ≤ 1
plane-ss-le true ss h = omega arith
plane-ss-le false ss h = h

luma-ss-0 : (luma : Bool) (ss : ℕ) → luma ≡ true → cond luma 0 ss ≡ 0
luma-ss-0 luma ss e = rw e refl

pub proper : (t : Start) (luma : Bool) → Proper (grid_at t luma)
proper t luma =
    record {
      ss-hor-le = plane-ss-le luma (ss_hor t.layout) (ss-hor-le t.layout);
      ss-ver-le = plane-ss-le luma (ss_ver t.layout) (ss-ver-le t.layout);
      luma-x = luma-ss-0 luma (ss_hor t.layout);
      luma-y = luma-ss-0 luma (ss_ver t.layout);
    }

-- ---- a start that passed the first test, and one inside the frame

pub shaped : (t : Start) → shape_bad t ≡ false → Shaped t
shaped t e =
    let l = not (layout_ok t.layout) in
    let f = frame_ok t.width.0 t.height.0 in
    let s = superblock_ok t.superblock in
    let p = or_off (l || not f) (not s) e in
    let q = (reflects-frame t.width.0 t.height.0).yes (not-false f (or_off l (not f) p.0).1) in
    record { width = q.0; height = q.1; size = (reflects-superblock t.superblock).yes (not-false s p.1) }

pub sb4-is : (t : Start) → Shaped t → (sb4 t ≡ 16) ⊎ (sb4 t ≡ 32)
sb4-is t s = ⊎_elim (λ e. inl (ap (λ (n : ℕ). n / 4) e)) (λ e. inr (ap (λ (n : ℕ). n / 4) e)) s.size

pub sb4-in : (t : Start) → (sb4 t ≡ 16) ⊎ (sb4 t ≡ 32) → (0 < sb4 t) × (sb4 t ≤ 32)
sb4-in t = ⊎_elim (λ e. (omega arith, omega arith)) (λ e. (omega arith, omega arith))

pub inside_is : (t : Start) → Shaped t → inside t ≡ true → Inside t
inside_is t s e =
    let b = (and-eq-true_iff (ltb t.row (superblocks (h4 t) (sb4 t))) (ltb t.start (superblocks (w4 t) (sb4 t)))).0 e in
    let p = (sb4-in t (sb4-is t s)).0 in
    record {
      width = s.width.1;
      height = s.height.1;
      size = sb4-is t s;
      row_in = (superblock-in t.row (h4 t) (sb4 t) p).only (ltb-true t.row (superblocks (h4 t) (sb4 t)) b.0);
      start-in = (superblock-in t.start (w4 t) (sb4 t) p).only (ltb-true t.start (superblocks (w4 t) (sb4 t)) b.1);
    }

pub corrects-inside : (t : Start) (luma : Bool) → Shaped t → corrects t luma ≡ true → Inside t
corrects-inside t luma s e =
    inside_is t s
    ((and-eq-true_iff (inside t) (ltb 0 (begin t))).0 ((and-eq-true_iff (luma || has_chroma t.layout) (inside t && ltb 0 (begin t))).0 e).1).0

-- ---- units

module _ (t : Start) (luma : Bool) (i : Inside t) where
  next_row : (t.row + 1) * sb4 t ≡ t.row * sb4 t + sb4 t
  next_row = omega (arith, add-mul t.row 1 (sb4 t))

  row_lt : t.row * sb4 t < min (h4 t) ((t.row + 1) * sb4 t)
  row_lt = omega (arith, next_row, i.row_in, sb4-in t i.size)

  pub first-le : first t luma ≤ end t luma
  first-le = go t.rowwise
    where
      go : (b : Bool) → cond b 0 (chroma_unit (grid_at t luma).ss-ver (t.row * sb4 t))
          ≤ cond b (chroma_units (grid_at t luma).ss-hor (w4 t)) (chroma_units (grid_at t luma).ss-ver (min (h4 t) ((t.row + 1) * sb4 t)))
      go true = omega arith
      go false =
          omega (arith, chroma-unit-in (t.row * sb4 t) (min (h4 t) ((t.row + 1) * sb4 t)) (grid_at t luma).ss-ver row_lt (proper t luma).ss-ver-le)
