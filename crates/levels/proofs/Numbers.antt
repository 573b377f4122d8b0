-- The number of `levels`, exactly when: each test reflects its fact, and the facts are those of document 01 by their constructors.
use mathlib.Core.List.{List, [], ◌∷◌}
use mathlib.Core.Logic.{◌⊎◌, inl, inr, ⊎_elim, by_cases}
use mathlib.Core.Path.{◌≡◌, refl, subst}
use Prim.Native.Nat.{ℕ, ◌+◌, ◌*◌, ◌/◌, ◌%◌, ◌<◌}
use native.Mathlib.Decide.{ℕ_discrete}
use native.Mathlib.Omega.{arith}
use lib.Dec.{ltb}
use lib.IntN.{ℤ}
use Rattle.loops.specs.Any.{any_below, Below}
use Rattle.loops.specs.Exactly.{Exactly, Reflects, Row, row}
use Rattle.loops.proofs.Reflected.{exactly-then, reflects-ltb, reflects-eqb, reflects-as, reflects-not, reflects-and, reflects-or, reflects-any, settled}
use Rattle.loops.proofs.Numbers.{gives, gives-0}
use Rattle.deltas.specs.Deltas.{delta, outside, Outside}
use Rattle.deltas.proofs.Range.{reflects-outside}
use Rattle.levels.specs.Levels.{LevelsIn, base_at, out_of_range, levels_number}
use Rattle.units.specs.Layout.{Layout}
use Rattle.units.proofs.Tests.{reflects-layout}
use Rattle.levels.specs.Promises.{LevelFault, base-above-63, ref-outside, mode-outside, lf-outside, seg-outside, chroma-at-400}

module _ (layout : ℕ) (x : LevelsIn) where
  abbrev Faults : Type 0
  Faults =
      (((((Below 4 (λ k. 63 < base_at x k)
      ⊎ Below 8 (λ r. Outside 64 (delta x.ref r)))
      ⊎ Below 2 (λ m. Outside 64 (delta x.mode m)))
      ⊎ Below 4 (λ k. Outside 63 (delta x.lf k)))
      ⊎ Below 32 (λ i. Outside 63 (delta x.seg i)))
      ⊎ ((layout ≡ 400) × ((¬ (base_at x 2 ≡ 0)) ⊎ (¬ (base_at x 3 ≡ 0)))))

  named : Faults → LevelFault layout x
  named =
      ⊎_elim (⊎_elim (⊎_elim (⊎_elim (⊎_elim
      (λ b. base-above-63 b.0 b.1 b.2)
      (λ b. ref-outside b.0 b.1 b.2))
      (λ b. mode-outside b.0 b.1 b.2))
      (λ b. lf-outside b.0 b.1 b.2))
      segment)
      chroma
    where
      segment : Below 32 (λ i. Outside 63 (delta x.seg i)) → LevelFault layout x
      segment b =
          let l = b.1 in
          let e : b.0 ≡ b.0 / 4 * 4 + b.0 % 4 = omega arith in
          seg-outside (b.0 / 4) (b.0 % 4) (omega arith) (omega arith) (subst (λ (i : ℕ). Outside 63 (delta x.seg i)) e b.2)

      chroma : (layout ≡ 400) × ((¬ (base_at x 2 ≡ 0)) ⊎ (¬ (base_at x 3 ≡ 0))) → LevelFault layout x
      chroma b =
          ⊎_elim (λ n. chroma-at-400 2 (omega arith) (omega arith) n b.0) (λ n. chroma-at-400 3 (omega arith) (omega arith) n b.0) b.1

  plain : LevelFault layout x → Faults
  plain (base-above-63 k h f) = inl (inl (inl (inl (inl (k, h, f)))))
  plain (ref-outside r h f) = inl (inl (inl (inl (inr (r, h, f)))))
  plain (mode-outside m h f) = inl (inl (inl (inr (m, h, f))))
  plain (lf-outside k h f) = inl (inl (inr (k, h, f)))
  plain (seg-outside s k h g f) = inl (inr (s * 4 + k, omega arith, f))
  plain (chroma-at-400 k g h n e) =
      inr (
        e,
        by_cases (ℕ_discrete k 2) (λ q. inl (subst (λ (i : ℕ). ¬ (base_at x i ≡ 0)) q n))
            (λ q. let t : k ≡ 3 = omega arith in inr (subst (λ (i : ℕ). ¬ (base_at x i ≡ 0)) t n)),
      )

  reflects-fault : Reflects (out_of_range layout x.base x.ref x.mode x.lf x.seg) (LevelFault layout x)
  unfolding out_of_range
  reflects-fault =
      reflects-as (record { only = named; always = plain })
      (reflects-or (reflects-or (reflects-or (reflects-or (reflects-or
      (reflects-any 4 (λ k. ltb 63 (base_at x k)) (λ k. 63 < base_at x k) (λ k _. reflects-ltb 63 (base_at x k)))
      (far 8 64 x.ref))
      (far 2 64 x.mode))
      (far 4 63 x.lf))
      (far 32 63 x.seg))
      (reflects-and (reflects-eqb layout 400) (reflects-or (reflects-not (reflects-eqb (base_at x 2) 0)) (reflects-not (reflects-eqb (base_at x 3) 0)))))
    where
      far : (n low : ℕ) (ds : List ℤ) → Reflects (any_below n (λ i. outside low (delta ds i))) (Below n (λ i. Outside low (delta ds i)))
      far n low ds = reflects-any n (λ i. outside low (delta ds i)) (λ i. Outside low (delta ds i)) (λ i _. reflects-outside low (delta ds i))

  abbrev rows : List Row
  rows = row 2 reflects-fault ∷ row 4 (reflects-not (reflects-layout layout)) ∷ []

  pub exactly-2 : Exactly (levels_number layout x ≡ 2) (LevelFault layout x)
  unfolding levels_number
  exactly-2 = gives rows refl 2 tt

  pub exactly-4 : Exactly (levels_number layout x ≡ 4) ((¬ Layout layout) × (¬ LevelFault layout x))
  unfolding levels_number
  exactly-4 = gives rows refl 4 tt

  pub exactly-0 : Exactly (levels_number layout x ≡ 0) (Layout layout × (¬ LevelFault layout x))
  unfolding levels_number
  exactly-0 =
      exactly-then (gives-0 rows refl)
      (record { only = λ n. (settled (reflects-layout layout) (λ l. n (inr l)), λ f. n (inl f)); always = λ p. ⊎_elim p.1 (λ l. l p.0) })
