-- A sum of at most 2 ^ n samples of 16 bits, divided by 2 ^ n and rounded, is one sample of 16 bits: by what half of 2 ^ n is.
use mathlib.Core.Path.{◌≡◌, ◌∙◌, ap}
use Prim.Native.Nat.{ℕ, suc, ◌+◌, ◌-◌, ◌*◌, ◌/◌, ◌%◌, ◌^◌, ◌≤◌, ◌<◌}
use native.Mathlib.Nat.{one-mul, pow-succ', div-lt_iff_lt-mul}
use native.Mathlib.Omega.{arith}
use lib.Pow.{pow_pos, pow_mono, shl_exact}

module _ (n : ℕ) (h : 1 ≤ n) where
  half : 2 ^ n ≡ 2 * 2 ^ (n - 1)
  half = let e : n ≡ suc (n - 1) = omega arith in ap (λ m. 2 ^ m) e ∙ pow-succ' 2 (n - 1)

  pub shifted : n ≤ 4 → (1 * 2 ^ (n - 1)) % 4294967296 ≡ 2 ^ (n - 1)
  shifted g = shl_exact 1 (n - 1) 32 (omega arith) (omega arith) ∙ one-mul (2 ^ (n - 1))

  module _ (x : ℕ) (b : x ≤ 2 ^ n * 65535) where
    pub with-half-fits : n ≤ 4 → x + 2 ^ (n - 1) < 4294967296
    with-half-fits g = omega (arith, half, pow_mono g)

    pub round-fits : (x + 2 ^ (n - 1)) / 2 ^ n < 65536
    round-fits = (div-lt_iff_lt-mul (pow_pos n)).1 (omega (arith, half, pow_pos n))
