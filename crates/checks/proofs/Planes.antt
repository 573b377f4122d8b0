-- The tests of a call from those of its planes: luma's, and chroma's where it is filtered.
use mathlib.Core.Bool.{Bool, true, false, not, ◌||◌, ◌&&◌, or-false}
use mathlib.Core.List.{List}
use mathlib.Core.Path.{◌≡◌, refl, ◌∙◌}
use Prim.Native.Nat.{ℕ, ◌+◌, ◌-◌, ◌*◌, ◌^◌, ◌<◌}
use native.Mathlib.Omega.{arith}
use lib.ListN.{length, get_or}
use Rattle.units.specs.Units.{chroma_unit, chroma_units}
use Rattle.units.specs.Frame.{stored}
use Rattle.units.specs.Memory.{plane_ok}
use Rattle.plane.specs.Line.{columns, rows, pass_no}
use Rattle.edges.specs.Edges.{units_of}
use Rattle.scans.specs.Scan.{levels_high, luma_levels_high, chroma_levels_high, samples_high}
use Rattle.scans.proofs.NumbersMean.{promises}
use Rattle.gap.specs.Numbers.{sb_units}
use Rattle.checks.specs.declared.Call.{Call}
use Rattle.checks.specs.Call.{Lent, samples, call_pass, w4, h4, sb4, ss-hor, ss-ver, grid_of, stride_of, area_of, chroma_on}
use Rattle.checks.specs.Tests.{any_plane, inside, levels_bad, plane_bad, planes_bad}
use Rattle.checks.proofs.TestsPassed.{unmet}

module _ (c : Call) where
  pub luma-only : (test : ℕ → Bool) {r : Bool} → chroma_on c ≡ false → r ≡ test 0 → r ≡ any_plane c test
  luma-only test o e = rw (o, or-false (test 0)) e

  pub with-chroma : (test : ℕ → Bool) {r s : Bool} → chroma_on c ≡ true → r ≡ test 0 → s ≡ (test 1 || test 2) → (r || s) ≡ any_plane c test
  with-chroma test o e f = rw (o, e, f) refl

  -- ---- number 8

  units-0 : (n : ℕ) → n ≡ chroma_units 0 n
  units-0 n = omega arith

  unit-0 : (n : ℕ) → n ≡ chroma_unit 0 n
  unit-0 n = omega arith

  module _ (ls : List ℕ) where
    abbrev too-high : ℕ → Bool
    too-high plane =
        levels_high ls c.level_stride (area_of c plane) (units_of (grid_of c plane) columns) (units_of (grid_of c plane) rows) (sb_units (grid_of c plane) (sb4 c)) (pass_no (call_pass c)) c.row

    luma-high : luma_levels_high ls c.level_stride (w4 c) (h4 c) (sb4 c) (call_pass c) c.row ≡ too-high 0
    luma-high i = levels_high ls c.level_stride (area_of c 0) (units-0 (w4 c) i) (units-0 (h4 c) i) (unit-0 (sb4 c) i) (pass_no (call_pass c)) c.row

    pub levels-out : inside c ≡ false → false ≡ levels_bad c ls
    unfolding levels_bad
    levels-out e = rw e refl

    pub levels-luma : {r : Bool} → inside c ≡ true → chroma_on c ≡ false
        → r ≡ luma_levels_high ls c.level_stride (w4 c) (h4 c) (sb4 c) (call_pass c) c.row → r ≡ levels_bad c ls
    unfolding levels_bad
    levels-luma e o h = rw e (luma-only too-high o (h ∙ luma-high))

    pub levels-all : {r s : Bool} → inside c ≡ true → chroma_on c ≡ true
        → r ≡ luma_levels_high ls c.level_stride (w4 c) (h4 c) (sb4 c) (call_pass c) c.row
        → s ≡ chroma_levels_high ls c.level_stride (w4 c) (h4 c) (ss-hor c 1) (ss-ver c 1) (sb4 c) (call_pass c) c.row → (r || s) ≡ levels_bad c ls
    unfolding levels_bad
    levels-all e o h k = rw e (with-chroma too-high o (h ∙ luma-high) k)

  -- ---- number 9

  module _ (plane : ℕ) (s : List ℕ) {len : ℕ} (l : length s ≡ len) where
    abbrev short : Bool
    short = not (plane_ok len (stride_of c plane) (stored c.width.0 (ss-hor c plane)) (stored c.height.0 (ss-ver c plane)))

    abbrev samples_over : Bool
    samples_over = samples_high s (stride_of c plane) (2 ^ c.depth - 1) (stored c.width.0 (ss-hor c plane)) (chroma_unit (ss-ver c plane) (sb4 c)) (8 * pass_no (call_pass c)) c.row

    pub plane-short : short ≡ true → true ≡ plane_bad c plane s
    unfolding plane_bad
    plane-short e = rw (l, e) refl

    pub plane-out : short ≡ false → inside c ≡ false → false ≡ plane_bad c plane s
    unfolding plane_bad
    plane-out e o = rw (l, e, o) refl

    pub plane-read : {r : Bool} → short ≡ false → inside c ≡ true → r ≡ samples_over → r ≡ plane_bad c plane s
    unfolding plane_bad
    plane-read e o h = rw (l, e, o) h

    -- no sample is above the depth's maximum
    pub plane-fit : short ≡ false → ((k : ℕ) → get_or s k 0 < 2 ^ c.depth) → false ≡ plane_bad c plane s
    unfolding plane_bad
    plane-fit e b = rw (l, e, none) (none-too (inside c))
      where
        none : samples_over ≡ false
        none = unmet _ (promises.nine s _ _ _ _ _ _) (λ h. omega (arith, h.too-high, b (h.y * stride_of c plane + h.x)))

        none-too : (a : Bool) → false ≡ (a && false)
        none-too true = refl
        none-too false = refl

  module _ (m : Lent) where
    pub planes-luma : {r : Bool} → chroma_on c ≡ false → r ≡ plane_bad c 0 m.luma → r ≡ planes_bad c m
    planes-luma o e = luma-only (λ plane. plane_bad c plane (samples m plane)) o e

    pub planes-all : {r s : Bool} → chroma_on c ≡ true → r ≡ plane_bad c 0 m.luma → s ≡ (plane_bad c 1 m.u || plane_bad c 2 m.v) → (r || s) ≡ planes_bad c m
    planes-all o e f = with-chroma (λ plane. plane_bad c plane (samples m plane)) o e f
