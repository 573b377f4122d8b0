-- The tests of numbers 8 and 9 reflect document 01's words: `any_below` by `any_below`, with the row's lines counted from the first.
use mathlib.Core.Path.{subst}
use mathlib.Core.Bool.{Bool}
use Prim.Native.Nat.{ℕ, ◌+◌, ◌-◌, ◌*◌, ◌≤◌, ◌<◌, min}
use native.Mathlib.Omega.{arith}
use lib.ListN.{get_or}
use Rattle.loops.specs.Any.{any_below, Below}
use Rattle.loops.specs.Exactly.{Reflects}
use Rattle.loops.proofs.Reflected.{reflects-as, reflects-ltb, reflects-any}
use Rattle.units.specs.Memory.{level_at}
use Rattle.scans.specs.Scan.{some_from, level_high, levels_high, sample_high, samples_high}
use Rattle.scans.specs.Promises.{Promises}

reflects-from : (a b : ℕ) (f : ℕ → Bool) (P : ℕ → Type 0) → ((y : ℕ) → Reflects (f y) (P y)) → Reflects (some_from a b f) ((y : ℕ) × (a ≤ y) × (y < b) × P y)
reflects-from a b f P r =
    reflects-as
    (record {
      only = λ t. (a + t.0, omega arith, omega (arith, t.1), t.2);
      always = λ t. (t.0 - a, omega (arith, t.1, t.2), subst P (omega (arith, t.1)) t.3);
    })
    (reflects-any (b - a) (λ i. f (a + i)) (λ i. P (a + i)) (λ i _. r (a + i)))

-- some place of some line
reflects-rectangle : (a b w : ℕ) (f : ℕ → ℕ → Bool) (P : ℕ → ℕ → Type 0) → ((x y : ℕ) → Reflects (f x y) (P x y))
    → Reflects (some_from a b (λ y. any_below w (λ x. f x y))) ((y : ℕ) × (a ≤ y) × (y < b) × Below w (λ x. P x y))
reflects-rectangle a b w f P r = reflects-from a b _ (λ y. Below w (λ x. P x y)) (λ y. reflects-any w (λ x. f x y) (λ x. P x y) (λ x _. r x y))

pub promises : Promises
unfolding levels_high samples_high
promises =
    record {
      eight = λ ls level-stride area width height sb above k.
          reflects-as
          (record {
            only = λ t.
                record { x = t.3.0; y = t.0; right = t.3.1; down = omega (arith, t.2); from = omega (arith, t.1); to = omega (arith, t.2); too-high = t.3.2 };
            always = λ t. (t.y, omega (arith, t.from), omega (arith, t.to, t.down), (t.x, t.right, t.too-high));
          })
          (reflects-rectangle (k * sb - above) (min height ((k + 1) * sb)) width (λ x y. level_high ls level-stride area x y)
          (λ x y. 63 < get_or ls (level_at level-stride x y area) 0) (λ x y. reflects-ltb 63 (get_or ls (level_at level-stride x y area) 0)));
      nine = λ s stride max width sb above k.
          reflects-as
          (record {
            only = λ t. record { x = t.3.0; y = t.0; right = t.3.1; from = omega (arith, t.1); to = t.2; too-high = t.3.2 };
            always = λ t. (t.y, omega (arith, t.from), t.to, (t.x, t.right, t.too-high));
          })
          (reflects-rectangle (4 * (k * sb) - above) (4 * ((k + 1) * sb)) width (λ x y. sample_high s stride max x y)
          (λ x y. max < get_or s (y * stride + x) 0) (λ x y. reflects-ltb max (get_or s (y * stride + x) 0)));
    }
