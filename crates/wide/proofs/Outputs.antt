-- An output's sum over the samples at the clipped positions is that of the definition, tap by tap, and its weights bound it.
use mathlib.Core.Path.{◌≡◌, ◌∙◌, ap}
use mathlib.Core.List.{List}
use Prim.Native.Nat.{ℕ, ◌+◌, ◌-◌, ◌*◌, ◌≤◌, ◌<◌}
use native.Mathlib.Omega.{arith}
use lib.IntN.{pos, nat_abs}
use lib.ListN.{get_or}
use Rattle.standard.specs.Math.{Round2, clip, sum_to}
use Rattle.standard.specs.Wide.{tap, wide_at}
use Rattle.line.specs.Place.{of}
use Rattle.line.specs.Width.{Same}
use Rattle.line.specs.declared.LineSamples.{LineSamples}
use Rattle.line.proofs.Sums.{clip-within, sum-eq}
use Rattle.wide.proofs.Totals.{sum-most}

-- x is the line by places, y the samples at the clipped positions
module _ (n : ℕ) (l : LineSamples) (x y : List ℕ) (small : n ≤ 6) (ex : Same 7 (λ k. get_or x k 0) (of l))
    (ey : (i : ℕ) → i < 4 * n → (get_or y i 0 ≡ get_or x (clip (8 - (n + 1)) (8 + n) (8 - n + i - n)) 0) × (get_or y i 0 < 65536)) where
  sample : (i j : ℕ) → i + j < 4 * n → get_or y (i + j) 0 ≡ of l (clip (8 - (n + 1)) (8 + n) (8 - n + i + j - n))
  sample i j h =
      let w = clip-within (8 - (n + 1)) (8 + n) (8 - n + (i + j) - n) (omega arith) in
      let e : 8 - n + (i + j) - n ≡ 8 - n + i + j - n = omega arith in
      (ey (i + j) h).0
      ∙ ex.same _ (record { from = omega (arith, w.0); to = omega (arith, w.1) })
      ∙ ap (λ p. of l (clip (8 - (n + 1)) (8 + n) p)) e

  pub output : (n2 log2 i : ℕ) → i < 2 * n → nat_abs (Round2 (pos (sum_to (λ j. tap n n2 j * get_or y (i + j) 0) (2 * n + 1))) log2) ≡ wide_at n n2 log2 (of l) (8 - n + i)
  unfolding wide_at
  output n2 log2 i h =
      ap (λ s. nat_abs (Round2 (pos s) log2))
      (sum-eq _ (λ j. tap n n2 j * of l (clip (8 - (n + 1)) (8 + n) (8 - n + i + j - n))) (2 * n + 1) (λ j g. ap (λ v. tap n n2 j * v) (sample i j (omega arith))))

  pub weighted : (n2 i : ℕ) → i < 2 * n → sum_to (λ j. tap n n2 j * get_or y (i + j) 0) (2 * n + 1) ≤ sum_to (tap n n2) (2 * n + 1) * 65535
  weighted n2 i h = sum-most n n2 (λ j. get_or y (i + j) 0) (2 * n + 1) (λ j g. (ey (i + j) (omega arith)).1)
