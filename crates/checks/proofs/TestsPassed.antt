-- What a call that passes a test has, and what the scans ask of it: the facts that the tests reflect, and `omega` at either size of superblocks.
use mathlib.Core.Bool.{Bool, true, false, cond, not, ◌||◌, false≢true}
use mathlib.Core.Logic.{◌⊎◌, inl, inr, ⊎_elim}
use mathlib.Core.Path.{◌≡◌, refl}
use Prim.Native.Nat.{ℕ, ◌*◌, ◌<◌}
use native.Mathlib.Omega.{arith}
use lib.Dec.{eqb}
use borrow.Author.Tests.{not-false, ltb-true}
use Rattle.loops.specs.Exactly.{Reflects}
use Rattle.loops.proofs.Reflected.{reflects-eqb, reflects-or}
use Rattle.loops.proofs.Tables.{each_at}
use Rattle.loops.proofs.Bools.{or_off}
use Rattle.units.specs.Layout.{layout_ok, ss_hor, ss_ver}
use Rattle.units.specs.Frame.{frame_ok, superblock_ok, stored}
use Rattle.units.specs.Memory.{levels_ok, plane_ok, masks_ok}
use Rattle.units.proofs.Places.{superblock-in, ss-hor-le, ss-ver-le}
use Rattle.units.proofs.Tests.{reflects-frame, reflects-superblock, reflects-levels, reflects-masks, reflects-plane}
use Rattle.edges.specs.Edges as edges
use Rattle.edges.specs.Edges.{Proper}
use Rattle.scans.specs.Fits.{SbRow, LevelsFit, SamplesFit}
use Rattle.checks.specs.declared.Call.{Call}
use Rattle.checks.specs.Call.{w4, h4, sb4, ss-hor, ss-ver, grid_of, stride_of, Shaped, Roomy}
use Rattle.checks.specs.Tests.{depth_bad, shape_bad, length_bad, inside}

pub unmet : {P : Type 0} (b : Bool) → Reflects b P → ¬ P → b ≡ false
unmet true r n = absurd (n (r.yes refl))
unmet false r n = refl

module _ (c : Call) where
  -- ---- numbers 3, 4 and 7

  pub depths : depth_bad c ≡ false → ((c.depth ≡ 8) ⊎ (c.depth ≡ 10)) ⊎ (c.depth ≡ 12)
  depths e = (reflects-or (reflects-or (reflects-eqb c.depth 8) (reflects-eqb c.depth 10)) (reflects-eqb c.depth 12)).yes (not-false _ e)

  pub deep : depth_bad c ≡ false → c.depth < 16
  deep e = ⊎_elim (⊎_elim (λ h. omega arith) (λ h. omega arith)) (λ h. omega arith) (depths e)

  pub shaped : shape_bad c ≡ false → Shaped c
  shaped e =
      let l = not (layout_ok c.layout) in
      let f = frame_ok c.width.0 c.height.0 in
      let s = superblock_ok c.superblock in
      let p = or_off (l || not f) (not s) e in
      let q = (reflects-frame c.width.0 c.height.0).yes (not-false f (or_off l (not f) p.0).1) in
      record { width = q.0; height = q.1; size = (reflects-superblock c.superblock).yes (not-false s p.1) }

  pub roomy : (levels masks : ℕ) → length_bad c levels masks ≡ false → Roomy c levels masks
  roomy levels masks e =
      let l = levels_ok levels c.level_stride (w4 c) (h4 c) in
      let m = masks_ok masks (w4 c) (h4 c) in
      let p = or_off (not l) (not m) e in
      let q = (reflects-levels levels c.level_stride (w4 c) (h4 c)).yes (not-false l p.0) in
      record { width = q.0; levels-long = q.1; masks-long = (reflects-masks masks (w4 c) (h4 c)).yes (not-false m p.1) }

  -- ---- the row

  pub sizes : Shaped c → (sb4 c ≡ 16) ⊎ (sb4 c ≡ 32)
  sizes s = ⊎_elim (λ e. inl (omega arith)) (λ e. inr (omega arith)) s.size

  pub in_frame : Shaped c → inside c ≡ true → c.row * sb4 c < h4 c
  in_frame s e =
      let z : 0 < sb4 c = ⊎_elim (λ p. omega arith) (λ p. omega arith) (sizes s) in
      (superblock-in c.row (h4 c) (sb4 c) z).only (ltb-true _ _ e)

  pub sb-row : Shaped c → inside c ≡ true → SbRow (h4 c) (sb4 c) c.row
  sb-row s e = record { size = sizes s; down = in_frame s e; most = omega (arith, s.height) }

  -- ---- what the scans ask

  pub levels-fit : (levels masks : ℕ) → Shaped c → inside c ≡ true → Roomy c levels masks → LevelsFit levels c.level_stride (w4 c) (h4 c) (sb4 c) c.row
  levels-fit levels masks s e r =
      record { row = sb-row s e; some = omega (arith, s.width); most = omega (arith, s.width); width = r.width; long = r.levels-long }

  pub samples-fit : (plane len : ℕ) → Shaped c → inside c ≡ true
      → plane_ok len (stride_of c plane) (stored c.width.0 (ss-hor c plane)) (stored c.height.0 (ss-ver c plane)) ≡ true
      → SamplesFit len (stride_of c plane) c.width.0 c.height.0 (ss-hor c plane) (ss-ver c plane) (sb4 c) c.row
  samples-fit plane len s e h =
      let p = (reflects-plane len (stride_of c plane) (stored c.width.0 (ss-hor c plane)) (stored c.height.0 (ss-ver c plane))).yes h in
      record { row = sb-row s e; some = omega (arith, s.width); most = omega (arith, s.width); right = p.0; long = p.1 }

  pub proper : (plane : ℕ) → Proper (grid_of c plane)
  proper plane = go (eqb plane 0)
    where
      go : (luma : Bool) → Proper (edges.grid_of luma (cond luma 0 (ss_hor c.layout)) (cond luma 0 (ss_ver c.layout)) (w4 c) (h4 c))
      go true = record { ss-hor-le = omega arith; ss-ver-le = omega arith; luma-x = λ _. refl; luma-y = λ _. refl }
      go false =
          record {
            ss-hor-le = ss-hor-le c.layout;
            ss-ver-le = ss-ver-le c.layout;
            luma-x = λ e. absurd (false≢true e);
            luma-y = λ e. absurd (false≢true e);
          }

  pub stored_some : (plane : ℕ) → Shaped c → 0 < stored c.height.0 (ss-ver c plane)
  stored_some plane s =
      let h = s.height.0 in each_at 2 (λ t. 0 < stored c.height.0 t) (omega arith, (omega arith, tt)) (ss-ver c plane) (omega (arith, (proper plane).ss-ver-le))
