-- The maximal transforms of a block stand where a transform may: no further than its size, and no second one along a short side.
use mathlib.Core.Path.{◌≡◌, refl, ◌∙◌}
use mathlib.Core.Logic.{by_cases}
use mathlib.Core.List.{List}
use Prim.Native.Nat.{ℕ, ◌+◌, ◌-◌, ◌*◌, ◌≤◌, ◌<◌}
use native.Mathlib.Decide.{ℕ_discrete, dec_lt}
use native.Mathlib.Nat.{le-div_iff_mul-le, mul-le-mul_right, le-mul_of_pos_right, one-mul}
use native.Mathlib.Omega.{arith}
use Rattle.loops.specs.Run.{up_to}
use Rattle.loops.proofs.Runs.{up_to-again}
use Rattle.standard.specs.Sizes.{Tx_Wide, Tx_High}
use Rattle.units.proofs.Rules.{tx-rule}
use Rattle.decomp.specs.Cells.{Covers}
use Rattle.decomp.specs.Folds.{grid, decomp, masks_from, counted, block, Place}

-- the y-th transform of those that n units have
record Line (n side y : ℕ) : Type 0 where
  pub at : y * side < n
  pub low : y ≤ y * side
  pub within : (k : ℕ) → n ≤ k * side → y < k

line : (n side y : ℕ) → 0 < side → 0 < n → y < counted n side → Line n side y
line n side y s p h =
    let l : y * side < n = omega (arith, (le-div_iff_mul-le {k = side} {x = y} {y = n - 1} s).0 (omega arith)) in
    record {
      at = l;
      low = le-mul_of_pos_right y s;
      within = λ k b. by_cases (dec_lt y k) (λ q. q) (λ q. absurd (omega (arith, mul-le-mul_right {m = k} {n = y} side (omega arith))));
    }

-- 4x4 stands anywhere, another at 0 or 1
room : (t n side y : ℕ) → Line n side y → n ≤ 32 → side ≤ 16 → (t ≡ 0 → side ≡ 1) → (0 < t → n ≤ 2 * side) → y * side + side ≤ 32
room t n side y l b m one two =
    by_cases (ℕ_discrete t 0)
    (λ e. omega (arith, one e))
    (λ f. let k = l.within 2 (two (omega arith)) in omega (arith, mul-le-mul_right {m = y} {n = 1} side (omega arith), one-mul side))

least : (t : ℕ) → t ≡ 0 → (Tx_High t ≡ 1) × (Tx_Wide t ≡ 1)
unfolding Tx_High Tx_Wide
least t e = rw e (refl, refl)

pub place : (t w4 h4 : ℕ) → Covers t w4 h4 → (y x : ℕ) → y < counted h4 (Tx_High t) → x < counted w4 (Tx_Wide t) → Place t 0 y x
place t w4 h4 c y x p q =
    let r = tx-rule t c.code in
    let v = line h4 (Tx_High t) y r.height.low c.height.0 p in
    let u = line w4 (Tx_Wide t) x r.width.low c.width.0 q in
    record {
      code = c.code;
      deep = omega arith;
      row = omega (arith, c.height.1);
      column = omega (arith, c.width.1);
      height = room t h4 (Tx_High t) y v c.height.1 r.height.at_most (λ e. (least t e).0) (λ n. (c.two n).1);
      width = room t w4 (Tx_Wide t) x u c.width.1 r.width.at_most (λ e. (least t e).1) (λ n. (c.two n).0);
      flat = λ l. omega (arith, v.within 1 (omega (arith, c.flat l, one-mul (Tx_High t))));
      tall = λ l. omega (arith, u.within 1 (omega (arith, c.tall l, one-mul (Tx_Wide t))));
      near = λ n _. let b = c.two n in (omega (arith, v.within 2 b.1), omega (arith, u.within 2 b.0));
    }

-- ---- the loops, at the code's own numbers

module _ (ms : List ℕ) (t w4 h4 w h n k : ℕ) (ew : w ≡ Tx_Wide t) (eh : h ≡ Tx_High t) (en : n ≡ counted w4 w) (ek : k ≡ counted h4 h) where
  pub place_at : Covers t w4 h4 → (y x : ℕ) → y < k → x < n → Place t 0 y x
  place_at c y x p q = place t w4 h4 c y x (rw (ek, eh) at p) (rw (en, ew) at q)

  pub block-done : (y : ℕ) (a₀ a : List ℕ) → y ≡ k → a ≡ grid n y (decomp (masks_from 0 ms) t) a₀ → a ≡ block ms t w4 h4 a₀
  unfolding block
  block-done y a₀ a e g = g ∙ rw (e, en, ek, ew, eh) refl

module _ (ms : List ℕ) (t : ℕ) where
  pub row_step : (y x : ℕ) (a₀ a b : List ℕ) → a ≡ up_to (decomp (masks_from 0 ms) t y) x a₀ → b ≡ decomp (masks_from 0 ms) t y x a
      → b ≡ up_to (decomp (masks_from 0 ms) t y) (x + 1) a₀
  row_step y x a₀ a b = up_to-again (decomp (masks_from 0 ms) t y) x a₀

  pub rows_step : (n y : ℕ) (a₀ a b : List ℕ) → a ≡ grid n y (decomp (masks_from 0 ms) t) a₀ → b ≡ up_to (decomp (masks_from 0 ms) t y) n a
      → b ≡ grid n (y + 1) (decomp (masks_from 0 ms) t) a₀
  rows_step n y a₀ a b = up_to-again (λ y. up_to (decomp (masks_from 0 ms) t y) n) y a₀
