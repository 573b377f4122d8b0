-- Each test reflects its fault: the comparisons that it is made of, the scans, and the planes that are filtered.
use mathlib.Core.Bool.{Bool, not}
use mathlib.Core.List.{List}
use mathlib.Core.Logic.{◌⊎◌, inl, inr, ⊎_elim, by_cases}
use mathlib.Core.Path.{◌≡◌}
use Prim.Native.Nat.{ℕ, ◌-◌, ◌*◌, ◌^◌, ◌<◌, ◌≤◌}
use native.Mathlib.Decide.{dec_lt}
use native.Mathlib.Omega.{arith}
use lib.ListN.{length}
use Rattle.loops.specs.Exactly.{Reflects}
use Rattle.loops.proofs.Reflected.{reflects-ltb, reflects-eqb, reflects-as, reflects-not, reflects-and, reflects-or, settled}
use Rattle.units.specs.Units.{chroma_unit}
use Rattle.units.specs.Layout.{Layout}
use Rattle.units.specs.Frame.{frame_records, stored, superblocks}
use Rattle.units.proofs.Places.{superblock-in}
use Rattle.units.proofs.Tests.{reflects-layout, reflects-chroma, reflects-frame, reflects-superblock, reflects-levels, reflects-masks, reflects-plane}
use Rattle.plane.specs.Line.{columns, rows, pass_no}
use Rattle.edges.specs.Edges.{units_of}
use Rattle.scans.specs.Promises.{LevelHigh, SampleHigh}
use Rattle.scans.specs.Scan.{levels_high}
use Rattle.scans.proofs.NumbersMean as scans
use Rattle.gap.specs.Numbers.{sb_units, gap, outside}
use Rattle.gap.specs.Promises.{Gap, Outside}
use Rattle.gap.proofs.NumbersMean as gaps
use Rattle.checks.specs.declared.Call.{Call}
use Rattle.checks.specs.Call.{Lent, samples, call_pass, w4, h4, sb4, ss-hor, ss-ver, grid_of, stride_of, area_of, chroma_on, Filtered, luma, chroma-u, chroma-v}
use Rattle.checks.specs.Tests.{any_plane, level_bad, depth_bad, shape_bad, length_bad, inside, levels_bad, plane_bad, planes_bad, gap_bad, mask_bad}
use Rattle.checks.specs.Faults.{LevelFault, u-above, v_above, u-at-400, v-at-400, DepthFault, ShapeFault, layout-other, size-outside, superblock-other}
use Rattle.checks.specs.Faults.{LengthFault, stride-below, levels-short, masks-short, InFrame, LevelByteFault}
use Rattle.checks.specs.Faults.{SampleFault, stride-short, too_short, too-high, PlaneFault, RowFault, GapFault, MaskFault}
use Rattle.checks.proofs.TestsPassed.{proper}

module _ (c : Call) where
  -- ---- numbers 2, 3, 4 and 7

  pub reflects-level : Reflects (level_bad c) (LevelFault c)
  reflects-level =
      reflects-as (record { only = ⊎_elim (⊎_elim u-above v_above) (λ p. ⊎_elim (u-at-400 (none p.0)) (v-at-400 (none p.0)) p.1); always = plain })
      (reflects-or (reflects-or (reflects-ltb 63 c.level_u) (reflects-ltb 63 c.level_v))
      (reflects-and (reflects-not (reflects-chroma c.layout)) (reflects-or (reflects-not (reflects-eqb c.level_u 0)) (reflects-not (reflects-eqb c.level_v 0)))))
    where
      none : ¬ (¬ (c.layout ≡ 400)) → c.layout ≡ 400
      none n = settled (reflects-eqb c.layout 400) n

      plain : LevelFault c → ((63 < c.level_u) ⊎ (63 < c.level_v)) ⊎ ((¬ (¬ (c.layout ≡ 400))) × ((¬ (c.level_u ≡ 0)) ⊎ (¬ (c.level_v ≡ 0))))
      plain (u-above h) = inl (inl h)
      plain (v_above h) = inl (inr h)
      plain (u-at-400 e n) = inr (λ f. f e, inl n)
      plain (v-at-400 e n) = inr (λ f. f e, inr n)

  pub reflects-depth : Reflects (depth_bad c) (DepthFault c)
  reflects-depth = reflects-not (reflects-or (reflects-or (reflects-eqb c.depth 8) (reflects-eqb c.depth 10)) (reflects-eqb c.depth 12))

  pub reflects-shape : Reflects (shape_bad c) (ShapeFault c)
  reflects-shape =
      reflects-as (record { only = ⊎_elim (⊎_elim layout-other size-outside) superblock-other; always = plain })
      (reflects-or (reflects-or (reflects-not (reflects-layout c.layout)) (reflects-not (reflects-frame c.width.0 c.height.0))) (reflects-not (reflects-superblock c.superblock)))
    where
      plain : ShapeFault c
          → ((¬ Layout c.layout) ⊎ (¬ (((1 ≤ c.width.0) × (c.width.0 ≤ 16384)) × ((1 ≤ c.height.0) × (c.height.0 ≤ 16384)))))
          ⊎ (¬ ((c.superblock ≡ 64) ⊎ (c.superblock ≡ 128)))
      plain (layout-other n) = inl (inl n)
      plain (size-outside n) = inl (inr n)
      plain (superblock-other n) = inr n

  pub reflects-lengths : (m : Lent) → Reflects (length_bad c (length m.levels) (length m.masks)) (LengthFault c m)
  reflects-lengths m =
      reflects-as (record { only = ⊎_elim short (λ n. masks-short (omega arith)); always = plain })
      (reflects-or (reflects-not (reflects-levels (length m.levels) c.level_stride (w4 c) (h4 c))) (reflects-not (reflects-masks (length m.masks) (w4 c) (h4 c))))
    where
      short : ¬ ((w4 c ≤ c.level_stride) × (4 * c.level_stride * h4 c ≤ length m.levels)) → LengthFault c m
      short n =
          by_cases (dec_lt c.level_stride (w4 c)) stride-below
          (λ f. let g : ¬ (4 * c.level_stride * h4 c ≤ length m.levels) = λ h. n (omega arith, h) in levels-short (omega arith))

      plain : LengthFault c m
          → (¬ ((w4 c ≤ c.level_stride) × (4 * c.level_stride * h4 c ≤ length m.levels))) ⊎ (¬ (640 * frame_records (w4 c) (h4 c) ≤ length m.masks))
      plain (stride-below h) = inl (λ p. omega (arith, p.0))
      plain (levels-short h) = inl (λ p. omega (arith, p.1))
      plain (masks-short h) = inr (λ p. omega arith)

  -- ---- the planes that are filtered

  pub reflects-on : Reflects (chroma_on c) ((¬ (c.layout ≡ 400)) × (¬ ((c.level_u ≡ 0) × (c.level_v ≡ 0))))
  reflects-on = reflects-and (reflects-chroma c.layout) (reflects-not (reflects-and (reflects-eqb c.level_u 0) (reflects-eqb c.level_v 0)))

  reflects-planes : (test : ℕ → Bool) (P : ℕ → Type 0) → ((plane : ℕ) → Reflects (test plane) (P plane)) → Reflects (any_plane c test) ((plane : ℕ) × Filtered c plane × P plane)
  reflects-planes test P r =
      reflects-as
      (record {
        only =
            ⊎_elim (λ x. (0, luma, x))
            (λ p. ⊎_elim (λ x. (1, chroma-u p.0.0 p.0.1, x)) (λ x. (2, chroma-v p.0.0 p.0.1, x)) p.1);
        always = λ p. plain p.1 p.2;
      })
      (reflects-or (r 0) (reflects-and reflects-on (reflects-or (r 1) (r 2))))
    where
      plain : {plane : ℕ} → Filtered c plane → P plane → P 0 ⊎ (((¬ (c.layout ≡ 400)) × (¬ ((c.level_u ≡ 0) × (c.level_v ≡ 0)))) × (P 1 ⊎ P 2))
      plain luma x = inl x
      plain (chroma-u l b) x = inr ((l, b), inl x)
      plain (chroma-v l b) x = inr ((l, b), inr x)

  -- ---- numbers 11 and 12

  pub reflects-gap : (m : Lent) → Reflects (gap_bad c m.masks) (GapFault c m)
  reflects-gap m =
      reflects-as
      (record {
        only = λ p. record { plane = p.0; filtered = p.1; broken = p.2 };
        always = λ f. (f.plane, f.filtered, f.broken);
      })
      (reflects-planes (λ plane. gap (grid_of c plane) m.masks (call_pass c) (sb4 c) c.row) (λ plane. Gap (grid_of c plane) m.masks (call_pass c) (sb4 c) c.row)
      (λ plane. (gaps.promises).eleven (grid_of c plane) m.masks (call_pass c) (sb4 c) c.row (proper c plane).ss-hor-le))

  pub reflects-mask : (m : Lent) → Reflects (mask_bad c m.masks) (MaskFault c m)
  reflects-mask m =
      reflects-as
      (record {
        only = λ p. record { plane = p.0; filtered = p.1; bit = p.2 };
        always = λ f. (f.plane, f.filtered, f.bit);
      })
      (reflects-planes (λ plane. outside (grid_of c plane) m.masks (call_pass c) (sb4 c) c.row) (λ plane. Outside (grid_of c plane) m.masks (call_pass c) (sb4 c) c.row)
      (λ plane. (gaps.promises).twelve (grid_of c plane) m.masks (call_pass c) (sb4 c) c.row))

  -- ---- numbers 8, 9 and 10, where superblocks have a size

  module _ (p : 0 < sb4 c) where
    reflects-inside : Reflects (inside c) (InFrame c)
    reflects-inside = reflects-as (superblock-in c.row (h4 c) (sb4 c) p) (reflects-ltb c.row (superblocks (h4 c) (sb4 c)))

    pub reflects-row : Reflects (not (inside c)) (RowFault c)
    reflects-row = reflects-as (record { only = λ n. omega arith; always = λ h i. omega arith }) (reflects-not reflects-inside)

    pub reflects-bytes : (m : Lent) → Reflects (levels_bad c m.levels) (LevelByteFault c m)
    unfolding levels_bad
    reflects-bytes m =
        reflects-as
        (record {
          only = λ t. record { inside = t.0; plane = t.1.0; filtered = t.1.1; too-high = t.1.2 };
          always = λ f. (f.inside, (f.plane, f.filtered, f.too-high));
        })
        (reflects-and reflects-inside
        (reflects-planes
        (λ plane. levels_high m.levels c.level_stride (area_of c plane) (units_of (grid_of c plane) columns) (units_of (grid_of c plane) rows)
        (sb_units (grid_of c plane) (sb4 c)) (pass_no (call_pass c)) c.row)
        (λ plane. LevelHigh m.levels c.level_stride (area_of c plane) (units_of (grid_of c plane) columns) (units_of (grid_of c plane) rows)
        (sb_units (grid_of c plane) (sb4 c)) (pass_no (call_pass c)) c.row)
        (λ plane. (scans.promises).eight m.levels c.level_stride (area_of c plane) (units_of (grid_of c plane) columns) (units_of (grid_of c plane) rows)
        (sb_units (grid_of c plane) (sb4 c)) (pass_no (call_pass c)) c.row)))

    module _ (plane : ℕ) (s : List ℕ) where
      abbrev width : ℕ
      width = stored c.width.0 (ss-hor c plane)

      abbrev down : ℕ
      down = stored c.height.0 (ss-ver c plane)

      abbrev High : Type 0
      High = SampleHigh s (stride_of c plane) (2 ^ c.depth - 1) width (chroma_unit (ss-ver c plane) (sb4 c)) (8 * pass_no (call_pass c)) c.row

      reflects-samples : Reflects (plane_bad c plane s) (SampleFault c plane s)
      unfolding plane_bad
      reflects-samples =
          reflects-as (record { only = ⊎_elim short (λ t. too-high t.0 t.1); always = plain })
          (reflects-or (reflects-not (reflects-plane (length s) (stride_of c plane) width down))
          (reflects-and reflects-inside
          ((scans.promises).nine s (stride_of c plane) (2 ^ c.depth - 1) width (chroma_unit (ss-ver c plane) (sb4 c)) (8 * pass_no (call_pass c)) c.row)))
        where
          short : ¬ ((width ≤ stride_of c plane) × (stride_of c plane * down ≤ length s)) → SampleFault c plane s
          short h =
              by_cases (dec_lt (stride_of c plane) width) stride-short
              (λ f. let g : ¬ (stride_of c plane * down ≤ length s) = λ l. h (omega arith, l) in too_short (omega arith))

          plain : SampleFault c plane s → (¬ ((width ≤ stride_of c plane) × (stride_of c plane * down ≤ length s))) ⊎ (InFrame c × High)
          plain (stride-short h) = inl (λ q. omega (arith, q.0))
          plain (too_short h) = inl (λ q. omega (arith, q.1))
          plain (too-high i h) = inr (i, h)

    pub reflects-planes-bad : (m : Lent) → Reflects (planes_bad c m) (PlaneFault c m)
    reflects-planes-bad m =
        reflects-as
        (record {
          only = λ t. record { plane = t.0; filtered = t.1; fault = t.2 };
          always = λ f. (f.plane, f.filtered, f.fault);
        })
        (reflects-planes (λ plane. plane_bad c plane (samples m plane)) (λ plane. SampleFault c plane (samples m plane)) (λ plane. reflects-samples plane (samples m plane)))
