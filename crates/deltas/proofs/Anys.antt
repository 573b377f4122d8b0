-- A test of some element of a list, by place.
use mathlib.Core.Bool.{Bool, ◌||◌}
use mathlib.Core.List.{List, [], ◌∷◌}
use mathlib.Core.Path.{◌≡◌, refl, ap, ap₂, ◌∙◌}
use Prim.Native.Nat.{ℕ, suc, ◌+◌}
use native.Mathlib.Omega.{arith}
use lib.ListN.{length, get_or}
use Rattle.std.specs.List.{list_any}
use Rattle.loops.specs.Any.{any_below}
use Rattle.loops.proofs.Anys.{any_same, any-split}

pub any-by-place : {A : Type 0} (f : A → Bool) (d : A) (l : List A) → any_below (length l) (λ k. f (get_or l k d)) ≡ list_any f l
unfolding any_below
any-by-place f d [] = refl
any-by-place {A} f d (x ∷ xs) =
    let g : ℕ → Bool = λ k. f (get_or (x ∷ xs) k d) in
    let e : suc (length xs) ≡ 1 + length xs = omega arith in
    let first : any_below 1 g ≡ f x = refl in
    ap (λ (n : ℕ). any_below n g) e
    ∙ any-split 1 (length xs) g
    ∙ ap₂ ◌||◌ first (any_same (length xs) (λ y. g (1 + y)) (λ y. f (get_or xs y d)) (λ y _. ap g (next y)) ∙ any-by-place f d xs)
  where
    next : (y : ℕ) → 1 + y ≡ suc y
    next y = omega arith
