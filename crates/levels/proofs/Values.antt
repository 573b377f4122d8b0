-- The bytes of an accepted answer: a place's byte lies in the tabulated front and is its level, and what 01 says of levels holds of the definition by the tests at its head.
use mathlib.Core.Bool.{Bool, true, false, cond, ◌&&◌, and-false}
use mathlib.Core.List.{List, ◌++◌}
use mathlib.Core.Logic.{◌⊎◌, ⊎_elim, by_cases}
use mathlib.Core.Path.{◌≡◌, refl, ap, fun_ext, ◌∙◌}
use Prim.Native.Nat.{ℕ, ◌+◌, ◌-◌, ◌*◌, ◌/◌, ◌%◌, ◌<◌, ◌≤◌}
use native.Mathlib.Decide.{ℕ_discrete, dec_lt}
use native.Mathlib.Omega.{arith}
use borrow.Author.Tests.{lt-ltb, le-ltb, eq-eqb, ne_eqb}
use lib.Dec.{eqb, ltb}
use lib.IntN.{ℤ, pos, negsuc, nat_abs}
use lib.ListN.{length, get_or, drop}
use lib.Seq.{get_or-append-add, get_or-drop}
use Rattle.loops.specs.Table.{tabulate}
use Rattle.loops.proofs.Tables.{length-tabulate, get_or-filled}
use Rattle.loops.specs.Flag.{on}
use Rattle.standard.specs.Math.{Clip3}
use Rattle.standard.specs.Level.{base_filter_level, lvl_seg, lvl_delta, filter_level}
use Rattle.deltas.specs.Deltas.{delta}
use Rattle.levels.specs.Levels.{LevelsIn, levels_in, base_at, lf_delta, area_level, luma_off, level, byte_at, written, levels_done}
use Rattle.levels.specs.Promises.{Place, byte}

-- ---- where a byte lies

behind : (f : ℕ → ℕ) (n : ℕ) (l : List ℕ) (i : ℕ) → n ≤ i → get_or (tabulate f n ++ drop n l) i 0 ≡ get_or l i 0
behind f n l i h =
    let e : i ≡ length (tabulate f n) + (i - n) = omega (arith, length-tabulate f n) in
    let g : n + (i - n) ≡ i = omega arith in
    ap (λ (k : ℕ). get_or (tabulate f n ++ drop n l) k 0) e
    ∙ get_or-append-add (tabulate f n) (drop n l) (i - n) 0
    ∙ get_or-drop n l (i - n) 0
    ∙ ap (λ (k : ℕ). get_or l k 0) g

module _ (x : LevelsIn) (l : List ℕ) where
  front : (i : ℕ) → i < written x → get_or (levels_done x l) i 0 ≡ byte_at x i
  unfolding levels_done
  front = get_or-filled (byte_at x) (drop (written x) l) (written x)

  pub from-64 : x.segmentation ≡ 0 → (i : ℕ) → 64 ≤ i → get_or (levels_done x l) i 0 ≡ get_or l i 0
  unfolding levels_done
  from-64 z i h = behind (byte_at x) (written x) l i (rw (eq-eqb x.segmentation 0 z) h)

module _ (x : LevelsIn) (s k q m : ℕ) where
  within : Place x s k q m → ((s * 4 + k) * 8 + q) * 2 + m < written x
  within p =
      by_cases (ℕ_discrete x.segmentation 0) (λ e. rw (eq-eqb x.segmentation 0 e) (omega (arith, p.in_use e)))
      (λ n. rw (ne_eqb x.segmentation 0 n) (omega arith))

  pub byte-is : (l : List ℕ) → Place x s k q m → byte (levels_done x l) s k q m ≡ level x s k q m
  byte-is l p =
      let i = ((s * 4 + k) * 8 + q) * 2 + m in
      let es : i / 64 ≡ s = omega arith in
      let ek : i / 16 % 4 ≡ k = omega arith in
      let eq : i / 2 % 8 ≡ q = omega arith in
      let em : i % 2 ≡ m = omega arith in
      front x l i (within p) ∙ rw (es, ek, eq, em) refl

  -- ---- what a level is

  pub luma-zero : base_at x 0 ≡ 0 → base_at x 1 ≡ 0 → level x s k q m ≡ 0
  unfolding level
  luma-zero e f = rw (eq-eqb (base_at x 0) 0 e, eq-eqb (base_at x 1) 0 f) refl

  pub chroma-zero : 2 ≤ k → base_at x k ≡ 0 → level x s k q m ≡ 0
  unfolding level area_level
  chroma-zero h e = rw (lt-ltb 1 k h, eq-eqb (base_at x k) 0 e) (either (luma_off x.base) 0)
    where
      either : (b : Bool) (n : ℕ) → cond b n n ≡ n
      either true n = refl
      either false n = refl

  pub level-is : (¬ (base_at x 0 ≡ 0)) ⊎ (¬ (base_at x 1 ≡ 0)) → (k < 2) ⊎ (¬ (base_at x k ≡ 0))
      → level x s k q m
      ≡ filter_level (base_at x k) (lf_delta x k) (on x.segmentation) (delta x.seg (s * 4 + k)) (on x.enabled) (delta x.ref) (delta x.mode) q m
  unfolding level area_level
  level-is f g = rw (luma-on f, chroma-on g) refl
    where
      luma-on : (¬ (base_at x 0 ≡ 0)) ⊎ (¬ (base_at x 1 ≡ 0)) → luma_off x.base ≡ false
      luma-on = ⊎_elim (λ n. rw (ne_eqb (base_at x 0) 0 n) refl) (λ n. rw (ne_eqb (base_at x 1) 0 n) (and-false (eqb (base_at x 0) 0)))

      chroma-on : (k < 2) ⊎ (¬ (base_at x k ≡ 0)) → (ltb 1 k && eqb (base_at x k) 0) ≡ false
      chroma-on = ⊎_elim (λ h. rw (le-ltb 1 k (omega arith)) refl) (λ n. rw (ne_eqb (base_at x k) 0 n) (and-false (ltb 1 k)))

-- reference 0
pub modes-alike : (x : LevelsIn) (s k : ℕ) → level x s k 0 0 ≡ level x s k 0 1
unfolding level area_level filter_level lvl_delta
modes-alike x s k = refl

-- ---- at most 63

clip-small : (v : ℤ) → nat_abs (Clip3 (pos 0) (pos 63) v) ≤ 63
unfolding Clip3
clip-small (negsuc n) = omega arith
clip-small (pos n) =
    rw (le-ltb n 0 (omega arith))
    (by_cases (dec_lt 63 n) (λ h. rw (lt-ltb 63 n h) (omega arith)) (λ h. rw (le-ltb 63 n (omega arith)) (omega arith)))

filter-small : (l : ℕ) (d : ℤ) (active : Bool) (f : ℤ) (enabled : Bool) (ref mode : ℕ → ℤ) (q m : ℕ)
    → filter_level l d active f enabled ref mode q m ≤ 63
unfolding filter_level lvl_delta lvl_seg base_filter_level
filter-small l d active f true ref mode q m = clip-small _
filter-small l d true f false ref mode q m = clip-small _
filter-small l d false f false ref mode q m = clip-small _

pub level-small : (x : LevelsIn) (s k q m : ℕ) → level x s k q m ≤ 63
unfolding level area_level
level-small x s k q m = or-zero (luma_off x.base) _ (or-zero (ltb 1 k && eqb (base_at x k) 0) _ (filter-small _ _ _ _ _ _ _ q m))
  where
    or-zero : (b : Bool) (n : ℕ) → n ≤ 63 → cond b 0 n ≤ 63
    or-zero true n h = omega arith
    or-zero false n h = h

-- ---- lf deltas 1, 2, 3

module _ (base : List ℕ) (enabled : ℕ) (ref mode lf lf' : List ℤ) (segmentation : ℕ) (seg : List ℤ) (e : delta lf 0 ≡ delta lf' 0) where
  same-level : (s k q m : ℕ) → level (levels_in base enabled ref mode 0 lf segmentation seg) s k q m ≡ level (levels_in base enabled ref mode 0 lf' segmentation seg) s k q m
  unfolding level area_level
  same-level s k q m =
      ap (λ (d : ℤ). cond (luma_off base) 0 (cond (ltb 1 k && eqb (get_or base k 0) 0) 0
      (filter_level (get_or base k 0) d (on segmentation) (delta seg (s * 4 + k)) (on enabled) (delta ref) (delta mode) q m))) e

  pub one-lf : (l : List ℕ) → levels_done (levels_in base enabled ref mode 0 lf segmentation seg) l ≡ levels_done (levels_in base enabled ref mode 0 lf' segmentation seg) l
  unfolding levels_done
  one-lf l =
      let n : ℕ = cond (on segmentation) 512 64 in
      ap (λ (f : ℕ → ℕ). tabulate f n ++ drop n l) (fun_ext (λ i. same-level (i / 64) (i / 16 % 4) (i / 2 % 8) (i % 2)))
