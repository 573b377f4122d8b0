-- A context with its first places stored: what stands in them, and past them; by recursion on their number.
use mathlib.Core.Path.{◌≡◌, refl, ap, ◌∙◌}
use mathlib.Core.Logic.{by_cases}
use mathlib.Core.List.{List}
use Prim.Native.Nat.{ℕ, zero, suc, ◌≤◌, ◌<◌}
use native.Mathlib.Omega.{arith}
use native.Mathlib.Decide.{ℕ_discrete}
use lib.ListN.{length, get_or, length-set}
use lib.Seq.{get_or-set_same, get_or-set_other}
use Rattle.mask_edges.specs.Folds.{stores}

module _ (f : ℕ → ℕ) (c : List ℕ) where
  pub length-stores : (n : ℕ) → length (stores n f c) ≡ length c
  unfolding stores
  length-stores zero = refl
  length-stores (suc n) = length-set (stores n f c) n (f n) ∙ length-stores n

  pub stores-in : (n v : ℕ) → n ≤ length c → v < n → get_or (stores n f c) v 0 ≡ f v
  unfolding stores
  stores-in zero v l h = absurd (omega arith)
  stores-in (suc n) v l h =
      by_cases (ℕ_discrete v n) (λ e. rw e (get_or-set_same (stores n f c) n (f n) 0 (rw (length-stores n) (omega arith))))
      (λ g. get_or-set_other (stores n f c) n v (f n) 0 g ∙ stores-in n v (omega arith) (omega arith))

  pub stores-out : (n v : ℕ) → n ≤ v → get_or (stores n f c) v 0 ≡ get_or c v 0
  unfolding stores
  stores-out zero v h = refl
  stores-out (suc n) v h = get_or-set_other (stores n f c) n v (f n) 0 (λ e. omega arith) ∙ stores-out n v (omega arith)

-- the next place is as it was
pub stores-here : (f : ℕ → ℕ) (v : ℕ) (c₀ c : List ℕ) → c ≡ stores v f c₀ → get_or c v 0 ≡ get_or c₀ v 0
stores-here f v c₀ c e = ap (λ (l : List ℕ). get_or l v 0) e ∙ stores-out f c₀ v v (omega arith)
