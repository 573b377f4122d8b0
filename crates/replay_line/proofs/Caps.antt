-- Zeros are in range.
use mathlib.Core.Path.{◌≡◌, refl}
use Prim.Native.Nat.{ℕ, zero, suc}
use native.Mathlib.Omega.{arith}
use lib.ListN.{get_or, replicate}
use Rattle.replay_line.specs.Capped.{Capped}

zeros : (n k : ℕ) → ◌≡◌ {A = ℕ} (get_or (replicate n 0) k 0) 0
zeros zero k = refl
zeros (suc n) zero = refl
zeros (suc n) (suc k) = zeros n k

pub capped-zeros : (max n : ℕ) → Capped max (replicate n 0)
capped-zeros max n = record { at_most = λ k. omega (arith, zeros n k) }
