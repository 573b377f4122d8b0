-- What a weighted sum comes to: one tap more is one term more, and no weight is above 2.
use mathlib.Core.Path.{◌≡◌, ◌∙◌, ap, ap₂, sym}
use mathlib.Core.Bool.{Bool, true, false, cond}
use Prim.Native.Nat.{ℕ, zero, suc, ◌+◌, ◌*◌, ◌≤◌, ◌<◌}
use native.Mathlib.Numerals.{add-one}
use native.Mathlib.Omega.{arith}
use lib.Dec.{leb}
use Rattle.standard.specs.Math.{dist, sum_to}
use Rattle.standard.specs.Wide.{tap}
use Rattle.line.proofs.Sums.{weighted-most}

tap-most : (n n2 j : ℕ) → tap n n2 j ≤ 2
tap-most n n2 j = go (leb (dist j n) n2)
  where
    go : (b : Bool) → cond b 2 1 ≤ 2
    go true = omega arith
    go false = omega arith

taps-most : (n n2 m : ℕ) → sum_to (tap n n2) m ≤ 2 * m
taps-most n n2 zero = omega arith
taps-most n n2 (suc m) = omega (arith, taps-most n n2 m, tap-most n n2 m)

module _ (n n2 : ℕ) (v : ℕ → ℕ) (m : ℕ) where
  -- of samples of 16 bits
  pub sum-most : ((j : ℕ) → j < m → v j < 65536) → sum_to (λ j. tap n n2 j * v j) m ≤ sum_to (tap n n2) m * 65535
  sum-most h = weighted-most n n2 v m 65535 (λ j i. omega (arith, h j i))

  pub sum-next : {t w : ℕ} → t ≡ sum_to (λ j. tap n n2 j * v j) m → w ≡ tap n n2 m → t + w * v m ≡ sum_to (λ j. tap n n2 j * v j) (m + 1)
  sum-next et ew = ap₂ (λ t w. t + w * v m) et ew ∙ sym (ap (sum_to (λ j. tap n n2 j * v j)) (add-one m))

pub sum_fits : (n n2 : ℕ) (v : ℕ → ℕ) (m : ℕ) {t w : ℕ} → t ≡ sum_to (λ j. tap n n2 j * v j) m → w ≡ tap n n2 m
    → m < 24 → ((j : ℕ) → j < m + 1 → v j < 65536) → t + w * v m < 4294967296
sum_fits n n2 v m et ew b h = omega (arith, sum-next n n2 v m et ew, sum-most n n2 v (m + 1) h, taps-most n n2 (m + 1))
