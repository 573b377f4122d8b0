-- What a call that is not refused has: no fault of any number, and so the facts that the tests reflect; of its planes, those that are filtered.
use mathlib.Core.Bool.{true}
use mathlib.Core.Logic.{◌⊎◌, ⊎_elim}
use mathlib.Core.Path.{◌≡◌}
use Prim.Native.Nat.{ℕ, ◌+◌, ◌-◌, ◌*◌, ◌^◌, ◌<◌, ◌≤◌}
use native.Mathlib.Omega.{arith}
use lib.ListN.{length, get_or}
use Rattle.units.specs.Units.{chroma_unit}
use Rattle.units.specs.Frame.{stored, records}
use Rattle.units.specs.Memory.{level_at}
use Rattle.units.proofs.Places.{stored-records}
use Rattle.plane.specs.Line.{columns, rows, pass_no}
use Rattle.edges.specs.Edges.{units_of, side}
use Rattle.scans.specs.Promises.{LevelHigh, SampleHigh}
use Rattle.gap.specs.Numbers.{sb_units}
use Rattle.gap.specs.Promises.{Keeps, Looks, Gap, Outside}
use Rattle.gap.proofs.NumbersMean.{promises}
use Rattle.checks.specs.declared.Call.{Call}
use Rattle.checks.specs.Call.{Lent, samples, call_pass, w4, h4, sb4, ss-hor, ss-ver, grid_of, stride_of, area_of, chroma_on, Filtered, chroma-u, chroma-v, Shaped, Roomy}
use Rattle.checks.specs.Tests.{number}
use Rattle.checks.specs.Faults.{SampleFault, stride-short, too_short, too-high}
use Rattle.checks.specs.Promises.{Clear4, Clear7, Clear9}
use Rattle.checks.proofs.TestsPassed.{unmet, depths, shaped, roomy, proper}
use Rattle.checks.proofs.FaultTests.{reflects-depth, reflects-shape, reflects-lengths, reflects-on}
use Rattle.checks.proofs.Numbers.{exactly-0}

pub filtered-u : (c : Call) → chroma_on c ≡ true → Filtered c 1
filtered-u c o = let p = (reflects-on c).yes o in chroma-u p.0 p.1

pub filtered-v : (c : Call) → chroma_on c ≡ true → Filtered c 2
filtered-v c o = let p = (reflects-on c).yes o in chroma-v p.0 p.1

-- a stored side holds whole records
stored-wide : (c : Call) (plane : ℕ) → stored c.width.0 (ss-hor c plane) ≡ 4 * (records (w4 c) * side (grid_of c plane) columns)
stored-wide c plane = stored-records c.width.0 (ss-hor c plane) (proper c plane).ss-hor-le

stored-high : (c : Call) (plane : ℕ) → stored c.height.0 (ss-ver c plane) ≡ 4 * (records (h4 c) * side (grid_of c plane) rows)
stored-high c plane = stored-records c.height.0 (ss-ver c plane) (proper c plane).ss-ver-le

module _ (c : Call) (m : Lent) (e : number c m ≡ 0) where
  clear-9 : Clear9 c m
  clear-9 = ((exactly-0 c m).only e).1.1.1

  clear-7 : Clear7 c m
  clear-7 = clear-9.1.1

  clear-4 : Clear4 c
  clear-4 = clear-7.1

  pub accepted-depth : ((c.depth ≡ 8) ⊎ (c.depth ≡ 10)) ⊎ (c.depth ≡ 12)
  accepted-depth = depths c (unmet _ (reflects-depth c) clear-4.1.0)

  pub accepted-shape : Shaped c
  accepted-shape = shaped c (unmet _ (reflects-shape c) clear-4.0)

  pub accepted-lengths : Roomy c (length m.levels) (length m.masks)
  accepted-lengths = roomy c _ _ (unmet _ (reflects-lengths c m) clear-7.0)

  pub accepted-row : c.row * sb4 c < h4 c
  accepted-row = let n = ((exactly-0 c m).only e).1.1.0 in omega arith

  depth-some : 0 < 2 ^ c.depth
  depth-some = ⊎_elim (⊎_elim (λ d. rw d (omega arith)) (λ d. rw d (omega arith))) (λ d. rw d (omega arith)) accepted-depth

  module _ {plane : ℕ} (f : Filtered c plane) where
    pub accepted-levels : ¬ LevelHigh m.levels c.level_stride (area_of c plane) (units_of (grid_of c plane) columns) (units_of (grid_of c plane) rows)
        (sb_units (grid_of c plane) (sb4 c)) (pass_no (call_pass c)) c.row
    accepted-levels h = clear-9.1.0 (record { inside = accepted-row; plane = plane; filtered = f; too-high = h })

    no-sample-fault : ¬ SampleFault c plane (samples m plane)
    no-sample-fault s = clear-9.0 (record { plane = plane; filtered = f; fault = s })

    pub accepted-stride : stored c.width.0 (ss-hor c plane) ≤ stride_of c plane
    accepted-stride = let g : ¬ (stride_of c plane < stored c.width.0 (ss-hor c plane)) = λ h. no-sample-fault (stride-short h) in omega arith

    pub accepted-length : stride_of c plane * stored c.height.0 (ss-ver c plane) ≤ length (samples m plane)
    accepted-length =
        let g : ¬ (length (samples m plane) < stride_of c plane * stored c.height.0 (ss-ver c plane)) = λ h. no-sample-fault (too_short h) in omega arith

    pub accepted-samples : ¬ SampleHigh (samples m plane) (stride_of c plane) (2 ^ c.depth - 1) (stored c.width.0 (ss-hor c plane)) (chroma_unit (ss-ver c plane) (sb4 c))
        (8 * pass_no (call_pass c)) c.row
    accepted-samples h = no-sample-fault (too-high accepted-row h)

    pub accepted-gap : ¬ Gap (grid_of c plane) m.masks (call_pass c) (sb4 c) c.row
    accepted-gap h = ((exactly-0 c m).only e).1.0 (record { plane = plane; filtered = f; broken = h })

    pub accepted-keeps : (v : ℕ) → Looks (grid_of c plane) (call_pass c) (sb4 c) c.row v → Keeps (grid_of c plane) m.masks (call_pass c) (sb4 c) c.row v
    accepted-keeps v l =
        promises.kept (grid_of c plane) m.masks (call_pass c) (sb4 c) c.row v (proper c plane).ss-hor-le
        (unmet _ (promises.eleven (grid_of c plane) m.masks (call_pass c) (sb4 c) c.row (proper c plane).ss-hor-le) accepted-gap) l

    pub accepted-masks : ¬ Outside (grid_of c plane) m.masks (call_pass c) (sb4 c) c.row
    accepted-masks h = ((exactly-0 c m).only e).0 (record { plane = plane; filtered = f; bit = h })

    -- ---- the same, at each place

    pub accepted-level : (x y : ℕ) → x < units_of (grid_of c plane) columns → y < units_of (grid_of c plane) rows → c.row * sb_units (grid_of c plane) (sb4 c) ≤ y + pass_no (call_pass c)
        → y < (c.row + 1) * sb_units (grid_of c plane) (sb4 c) → get_or m.levels (level_at c.level_stride x y (area_of c plane)) 0 ≤ 63
    accepted-level x y r d a b =
        let g : ¬ (63 < get_or m.levels (level_at c.level_stride x y (area_of c plane)) 0) =
        λ h. accepted-levels (record { x = x; y = y; right = r; down = d; from = a; to = b; too-high = h }) in
        omega arith

    pub accepted-sample : (x y : ℕ) → x < stored c.width.0 (ss-hor c plane) → 4 * (c.row * chroma_unit (ss-ver c plane) (sb4 c)) ≤ y + 8 * pass_no (call_pass c)
        → y < 4 * ((c.row + 1) * chroma_unit (ss-ver c plane) (sb4 c)) → get_or (samples m plane) (y * stride_of c plane + x) 0 < 2 ^ c.depth
    accepted-sample x y r a b =
        let g : ¬ (2 ^ c.depth - 1 < get_or (samples m plane) (y * stride_of c plane + x) 0) =
        λ h. accepted-samples (record { x = x; y = y; right = r; from = a; to = b; too-high = h }) in
        omega (arith, depth-some)

    -- in records
    pub accepted-wide : 4 * (records (w4 c) * side (grid_of c plane) columns) ≤ stride_of c plane
    accepted-wide = omega (arith, accepted-stride, stored-wide c plane)

    pub accepted-high : stride_of c plane * (4 * (records (h4 c) * side (grid_of c plane) rows)) ≤ length (samples m plane)
    accepted-high = rw (← stored-high c plane) accepted-length
