-- The sixteen values of an area are those of the definition, and the areas stored one after another are the table: no delta of a segment is
-- a delta of 0, and byte 16 * c + j is reference j / 2 and mode j % 2 of area c.
use mathlib.Core.Bool.{Bool, true, false, cond}
use mathlib.Core.List.{List, ◌++◌}
use mathlib.Core.Logic.{by_cases}
use mathlib.Core.Path.{◌≡◌, refl, ap, fun_ext, ◌∙◌}
use Prim.Native.Nat.{ℕ, ◌+◌, ◌*◌, ◌/◌, ◌%◌, ◌<◌, ◌≤◌}
use native.Mathlib.Decide.{dec_lt}
use native.Mathlib.Nat.{zero-add}
use native.Mathlib.Omega.{arith}
use borrow.Author.Tests.{lt-ltb, le-ltb}
use lib.Dec.{eqb}
use lib.IntN.{ℤ, pos, negsuc, nat_abs, sub_ℕ, ◌+ℤ◌, +ℤ_idr}
use lib.ListN.{length, drop}
use Rattle.loops.specs.Table.{tabulate}
use Rattle.loops.specs.Flag.{on}
use Rattle.standard.specs.Math.{Clip3}
use Rattle.standard.specs.Level.{base_filter_level, lvl_seg, lvl_delta, filter_level}
use Rattle.deltas.specs.Deltas.{delta}
use Rattle.levels.specs.Levels.{LevelsIn, base_at, lf_delta, area_level, luma_off, level, byte_at, written, levels_done}
use Rattle.levels.specs.Helpers.{stores, biased_level}
use Rattle.levels.proofs.Fills.{stores-fill}

-- ---- a value that is stored

pub biased-level-is : (level lf seg enabled : ℕ) (refs modes : List ℤ) (j base l : ℕ)
    → pos base ≡ lvl_seg true (sub_ℕ seg 128) (base_filter_level level (sub_ℕ lf 128))
    → pos l ≡ lvl_delta (on enabled) (delta refs) (delta modes) (j / 2) (j % 2) (pos base)
    → l ≡ biased_level level lf seg enabled refs modes j
unfolding biased_level filter_level
biased-level-is level lf seg enabled refs modes j base l p q =
    ap nat_abs (q ∙ ap (lvl_delta (on enabled) (delta refs) (delta modes) (j / 2) (j % 2)) p)

-- ---- a segment without a delta

clip-clip : (v : ℤ) → Clip3 (pos 0) (pos 63) (Clip3 (pos 0) (pos 63) v) ≡ Clip3 (pos 0) (pos 63) v
unfolding Clip3
clip-clip (negsuc n) = refl
clip-clip (pos n) =
    rw (le-ltb n 0 (omega arith))
    (by_cases (dec_lt 63 n) (λ h. rw (lt-ltb 63 n h) refl) (λ h. rw (le-ltb 63 n (omega arith), le-ltb n 0 (omega arith), le-ltb 63 n (omega arith)) refl))

seg-always : (active : Bool) (feature : ℤ) (l : ℕ) (d : ℤ)
    → lvl_seg true (cond active feature (pos 0)) (base_filter_level l d) ≡ lvl_seg active feature (base_filter_level l d)
unfolding lvl_seg base_filter_level
seg-always true feature l d = refl
seg-always false feature l d = rw (+ℤ_idr (Clip3 (pos 0) (pos 63) (d +ℤ pos l))) (clip-clip (d +ℤ pos l))

-- ---- the sixteen values of an area

module _ (x : LevelsIn) (c d f : ℕ) (ed : sub_ℕ d 128 ≡ lf_delta x (c % 4)) (ef : sub_ℕ f 128 ≡ cond (on x.segmentation) (delta x.seg c) (pos 0)) where
  sixteen : (j : ℕ) → biased_level (base_at x (c % 4)) d f x.enabled x.ref x.mode j
      ≡ filter_level (base_at x (c % 4)) (lf_delta x (c % 4)) (on x.segmentation) (delta x.seg (c / 4 * 4 + c % 4)) (on x.enabled) (delta x.ref) (delta x.mode) (j / 2) (j % 2)
  unfolding biased_level filter_level
  sixteen j =
      let e : c / 4 * 4 + c % 4 ≡ c = omega arith in
      rw (ed, ef, e, seg-always (on x.segmentation) (delta x.seg c) (base_at x (c % 4)) (lf_delta x (c % 4))) refl

  module _ (a : ℕ) (l t : List ℕ) where
    pub luma-area : c % 4 < 2 → t ≡ stores (biased_level (base_at x (c % 4)) d f x.enabled x.ref x.mode) a 16 l
        → t ≡ stores (λ j. area_level x (c / 4) (c % 4) (j / 2) (j % 2)) a 16 l
    unfolding area_level
    luma-area h p =
        p ∙ ap (λ (g : ℕ → ℕ). stores g a 16 l) (fun_ext (λ j. rw (le-ltb 1 (c % 4) (omega arith)) (sixteen j)))

    pub chroma-area : 2 ≤ c % 4
        → t ≡ stores (λ j. cond (eqb (base_at x (c % 4)) 0) 0 (biased_level (base_at x (c % 4)) d f x.enabled x.ref x.mode j)) a 16 l
        → t ≡ stores (λ j. area_level x (c / 4) (c % 4) (j / 2) (j % 2)) a 16 l
    unfolding area_level
    chroma-area h p =
        p ∙ ap (λ (g : ℕ → ℕ). stores g a 16 l) (fun_ext (λ j. rw (lt-ltb 1 (c % 4) (omega arith), sixteen j) refl))

-- ---- areas one after another

module _ (x : LevelsIn) where
  area-at : luma_off x.base ≡ false → (c j : ℕ) → j < 16 → area_level x (c / 4) (c % 4) (j / 2) (j % 2) ≡ byte_at x (16 * c + j)
  unfolding level
  area-at h c j l =
      let s : (16 * c + j) / 64 ≡ c / 4 = omega arith in
      let k : (16 * c + j) / 16 % 4 ≡ c % 4 = omega arith in
      let r : (16 * c + j) / 2 % 8 ≡ j / 2 = omega arith in
      let m : (16 * c + j) % 2 ≡ j % 2 = omega arith in
      rw (h, s, k, r, m) refl

  pub areas-again : luma_off x.base ≡ false → (c : ℕ) (v t u : List ℕ) → 16 * c + 16 ≤ length v
      → t ≡ tabulate (byte_at x) (16 * c) ++ drop (16 * c) v → u ≡ stores (λ j. area_level x (c / 4) (c % 4) (j / 2) (j % 2)) (16 * c) 16 t
      → u ≡ tabulate (byte_at x) (16 * (c + 1)) ++ drop (16 * (c + 1)) v
  areas-again h c v t u l p q =
      let e : 16 * c + 16 ≡ 16 * (c + 1) = omega arith in
      q
      ∙ ap (stores (λ j. area_level x (c / 4) (c % 4) (j / 2) (j % 2)) (16 * c) 16) p
      ∙ stores-fill (byte_at x) (λ j. area_level x (c / 4) (c % 4) (j / 2) (j % 2)) (16 * c) 16 v l (area-at h c)
      ∙ ap (λ (k : ℕ). tabulate (byte_at x) k ++ drop k v) e

  written_is : (n : ℕ) → n ≡ cond (on x.segmentation) 32 4 → 16 * n ≡ written x
  written_is n e = ap (λ (k : ℕ). 16 * k) e ∙ go (on x.segmentation)
    where
      go : (b : Bool) → 16 * cond b 32 4 ≡ cond b 512 64
      go true = refl
      go false = refl

  pub areas-done : (n c : ℕ) (v t : List ℕ) → n ≡ cond (on x.segmentation) 32 4 → c ≡ n
      → t ≡ tabulate (byte_at x) (16 * c) ++ drop (16 * c) v → t ≡ levels_done x v
  unfolding levels_done
  areas-done n c v t e g p = p ∙ ap (λ (k : ℕ). tabulate (byte_at x) k ++ drop k v) (written_is c (g ∙ e))

  -- ---- no luma level

  zero-at : luma_off x.base ≡ true → (i : ℕ) → 0 ≡ byte_at x i
  unfolding level
  zero-at h i = rw h refl

  pub cleared : luma_off x.base ≡ true → (n : ℕ) (v u : List ℕ) → n ≡ cond (on x.segmentation) 32 4
      → 16 * n ≤ length v → u ≡ stores (λ j. 0) 0 (16 * n) v → u ≡ levels_done x v
  unfolding levels_done
  cleared h n v u e l p =
      p
      ∙ stores-fill (byte_at x) (λ j. 0) 0 (16 * n) v (omega arith) (λ j _. zero-at h (0 + j))
      ∙ ap (λ (k : ℕ). tabulate (byte_at x) k ++ drop k v) (zero-add (16 * n) ∙ written_is n e)
