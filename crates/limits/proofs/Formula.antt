-- The standard's limit is the Rust's formula at each sharpness 0..7, by cases on the tests of the shift and of the clip.
use mathlib.Core.Bool.{Bool, cond}
use mathlib.Core.Path.{◌≡◌, ap, ◌∙◌}
use mathlib.Core.Logic.{by_cases}
use Prim.Native.Nat.{ℕ, ◌+◌, ◌-◌, ◌/◌, ◌^◌, ◌<◌, ◌≤◌, min, max}
use native.Mathlib.Decide.{dec_lt}
use native.Mathlib.Omega.{arith}
use borrow.Author.Tests.{lt-ltb, le-ltb}
use Rattle.standard.specs.Math.{Clip3, clip}
use Rattle.standard.specs.Strength.{shift, limit}

clip-most : (lo hi v : ℕ) → lo ≤ hi → clip lo hi v ≡ max (min v hi) lo
unfolding Clip3
clip-most lo hi v h =
    by_cases (dec_lt v lo) (λ p. rw (lt-ltb v lo p) (omega arith))
    (λ p. rw (le-ltb v lo (omega arith))
    (by_cases (dec_lt hi v) (λ q. rw (lt-ltb hi v q) (omega arith)) (λ q. rw (le-ltb hi v (omega arith)) (omega arith))))

shift-rust : (s : ℕ) → 0 < s → s ≤ 7 → shift s ≡ (s + 3) / 4
shift-rust s p h =
    by_cases (dec_lt 4 s) (λ q. rw (lt-ltb 4 s q) (omega arith)) (λ q. rw (le-ltb 4 s (omega arith), lt-ltb 0 s p) (omega arith))

pub limit-none : (l : ℕ) → limit 0 l ≡ max l 1
unfolding limit
limit-none l = omega arith

pub limit-sharp : (s l : ℕ) → 0 < s → s ≤ 7 → limit s l ≡ max (min (l / 2 ^ ((s + 3) / 4)) (9 - s)) 1
unfolding limit
limit-sharp s l p h =
    ap (λ (b : Bool). cond b (clip 1 (9 - s) (l / 2 ^ shift s)) (max 1 (l / 2 ^ shift s))) (lt-ltb 0 s p)
    ∙ clip-most 1 (9 - s) (l / 2 ^ shift s) (omega arith)
    ∙ ap (λ (k : ℕ). max (min (l / 2 ^ k) (9 - s)) 1) (shift-rust s p h)
