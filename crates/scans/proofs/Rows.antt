-- Products that bound the places of a row's lines, from the laws of multiplication, and four lines at a time, by recursion on the fours.
use mathlib.Core.Path.{◌≡◌, refl, ap, ◌∙◌}
use mathlib.Core.Bool.{Bool, true, false, ◌||◌}
use Prim.Native.Nat.{ℕ, zero, suc, ◌+◌, ◌-◌, ◌*◌, ◌≤◌, ◌<◌, min}
use native.Mathlib.Nat.{add-mul, mul-one, mul_assoc, mul-le-mul_left, mul-le-mul_right}
use native.Mathlib.Omega.{arith}
use Rattle.loops.specs.Any.{any_below}

-- m lines from line a on end within b lines
pub lines-in : (a m b s : ℕ) → a + m ≤ b → a * s + m * s ≤ b * s
lines-in a m b s h = omega (arith, add-mul a m s, mul-le-mul_right s h)

pub few-lines : (n s : ℕ) → 0 < s → n ≤ n * s
few-lines n s h = omega (arith, mul-le-mul_left n h, mul-one n)

pub next_row : (k sb : ℕ) → (k + 1) * sb ≡ k * sb + sb
next_row k sb = omega (arith, add-mul k 1 sb)

-- the lines of row k, and `above` before them, as the code counts them
module _ (k sb above first : ℕ) (ef : first ≡ k * sb - above) where
  pub row-cells : (height last stride len : ℕ) → last ≡ min height (k * sb + sb) → k * sb < height → 4 * (height * stride) ≤ len
      → 4 * ((first + (last - first)) * stride) ≤ len
  row-cells height last stride len el h l =
      let e : first + (last - first) ≤ height = omega arith in omega (arith, mul-le-mul_right stride e)

  pub row_count : (height last : ℕ) → last ≡ min height (k * sb + sb) → last - first ≡ min height ((k + 1) * sb) - (k * sb - above)
  row_count height last el = omega (arith, next_row k sb)

  pub rows-count : (k * sb + sb) - first ≡ (k + 1) * sb - (k * sb - above)
  rows-count = omega (arith, next_row k sb)

  pub rows-cells : (stride len : ℕ) → 4 * ((k + 1) * sb) * stride ≤ len → 4 * ((first + ((k * sb + sb) - first)) * stride) ≤ len
  rows-cells stride len l =
      let e : first + ((k * sb + sb) - first) ≡ (k + 1) * sb = omega (arith, next_row k sb) in
      rw e (omega (arith, mul_assoc 4 ((k + 1) * sb) stride))

pub any-fours : (n : ℕ) (f : ℕ → Bool)
    → any_below (4 * n) f ≡ any_below n (λ i. ((f (4 * i) || f (4 * i + 1)) || f (4 * i + 2)) || f (4 * i + 3))
unfolding any_below
any-fours zero f = refl
any-fours (suc n) f =
    let e : 4 * suc n ≡ suc (suc (suc (suc (4 * n)))) = omega arith in
    let p : suc (4 * n) ≡ 4 * n + 1 = omega arith in
    let q : suc (suc (4 * n)) ≡ 4 * n + 2 = omega arith in
    let r : suc (suc (suc (4 * n))) ≡ 4 * n + 3 = omega arith in
    ap (λ (k : ℕ). any_below k f) e
    ∙ (λ i. (((any-fours n f i || f (4 * n)) || f (p i)) || f (q i)) || f (r i))
    ∙ group (any_below n (λ i. ((f (4 * i) || f (4 * i + 1)) || f (4 * i + 2)) || f (4 * i + 3))) (f (4 * n)) (f (4 * n + 1)) (f (4 * n + 2))
    (f (4 * n + 3))
  where
    group : (a x y z w : Bool) → ((((a || x) || y) || z) || w) ≡ (a || (((x || y) || z) || w))
    group true x y z w = refl
    group false x y z w = refl
