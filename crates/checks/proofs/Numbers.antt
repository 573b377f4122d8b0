-- The number of a call, exactly when: the table of its tests and their faults. Where superblocks have no size only 2, 3 and 4 are given.
use mathlib.Core.List.{List, [], ◌∷◌}
use mathlib.Core.Logic.{◌⊎◌, inl, inr, ⊎_elim, by_cases}
use mathlib.Core.Path.{◌≡◌, refl}
use mathlib.Core.Bool.{Bool, true, false}
use Prim.Native.Nat.{ℕ, ◌<◌}
use native.Mathlib.Decide.{dec_lt}
use native.Mathlib.Omega.{arith}
use Rattle.loops.specs.Exactly.{Exactly, Reflects, Row, row, lowest}
use Rattle.loops.proofs.Reflected.{exactly-then}
use Rattle.loops.proofs.Numbers.{gives, gives-0}
use Rattle.checks.specs.declared.Call.{Call}
use Rattle.checks.specs.Call.{Lent, sb4}
use Rattle.checks.specs.Tests.{shape_bad, number}
use Rattle.checks.specs.Faults.{LevelFault, DepthFault, ShapeFault, superblock-other, LengthFault, LevelByteFault, PlaneFault, RowFault, GapFault, MaskFault}
use Rattle.checks.specs.Promises.{Clear2, Clear3, Clear4, Clear7, Clear8, Clear9, Clear10, Clear11, Clear12, Numbers}
use Rattle.checks.proofs.FaultTests.{reflects-level, reflects-depth, reflects-shape, reflects-lengths, reflects-bytes, reflects-planes-bad, reflects-row, reflects-gap, reflects-mask}

-- ---- none of several faults, one by one

first : {F X : Type 0} → Exactly (¬ (F ⊎ X)) ((¬ X) × (¬ F))
first = record { only = λ n. (λ x. n (inr x), λ f. n (inl f)); always = λ p. ⊎_elim p.1 p.0 }

more : {F X S C : Type 0} → Exactly (¬ S) ((¬ (F ⊎ X)) × C) → Exactly (¬ S) ((¬ X) × ((¬ F) × C))
more e =
    exactly-then e
    (record { only = λ p. (λ x. p.0 (inr x), (λ f. p.0 (inl f), p.1)); always = λ p. (⊎_elim p.1.0 p.0, p.1.1) })

beside : {F A B : Type 0} → Exactly A B → Exactly (F × A) (F × B)
beside e = record { only = λ p. (p.0, e.only p.1); always = λ p. (p.0, e.always p.1) }

neither : {A B : Type 0} → ¬ A → ¬ B → Exactly A B
neither a b = record { only = λ x. absurd (a x); always = λ x. absurd (b x) }

module _ (c : Call) (m : Lent) where
  -- ---- X is the fault after those before it

  abbrev Before : Type 0 → Type 0
  Before X = LevelFault c ⊎ (DepthFault c ⊎ X)

  none-3 : (X : Type 0) → Exactly (¬ Before X) ((¬ X) × Clear3 c)
  none-3 X = more {F = DepthFault c} {X = X} first

  none-4 : (X : Type 0) → Exactly (¬ Before (ShapeFault c ⊎ X)) ((¬ X) × Clear4 c)
  none-4 X = more (none-3 (ShapeFault c ⊎ X))

  none-7 : (X : Type 0) → Exactly (¬ Before (ShapeFault c ⊎ (LengthFault c m ⊎ X))) ((¬ X) × Clear7 c m)
  none-7 X = more (none-4 (LengthFault c m ⊎ X))

  none-8 : (X : Type 0) → Exactly (¬ Before (ShapeFault c ⊎ (LengthFault c m ⊎ (LevelByteFault c m ⊎ X)))) ((¬ X) × Clear8 c m)
  none-8 X = more (none-7 (LevelByteFault c m ⊎ X))

  none-9 : (X : Type 0) → Exactly (¬ Before (ShapeFault c ⊎ (LengthFault c m ⊎ (LevelByteFault c m ⊎ (PlaneFault c m ⊎ X))))) ((¬ X) × Clear9 c m)
  none-9 X = more (none-8 (PlaneFault c m ⊎ X))

  none-10 : (X : Type 0) → Exactly (¬ Before (ShapeFault c ⊎ (LengthFault c m ⊎ (LevelByteFault c m ⊎ (PlaneFault c m ⊎ (RowFault c ⊎ X)))))) ((¬ X) × Clear10 c m)
  none-10 X = more (none-9 (RowFault c ⊎ X))

  none-11 : (X : Type 0) → Exactly (¬ Before (ShapeFault c ⊎ (LengthFault c m ⊎ (LevelByteFault c m ⊎ (PlaneFault c m ⊎ (RowFault c ⊎ (GapFault c m ⊎ X))))))) ((¬ X) × Clear11 c m)
  none-11 X = more (none-10 (GapFault c m ⊎ X))

  -- ---- the table

  module _ (p : 0 < sb4 c) where
    abbrev rows : List Row
    rows =
        row 2 (reflects-level c)
        ∷ row 3 (reflects-depth c)
        ∷ row 4 (reflects-shape c)
        ∷ row 7 (reflects-lengths c m)
        ∷ row 8 (reflects-bytes c p m)
        ∷ row 9 (reflects-planes-bad c p m)
        ∷ row 10 (reflects-row c p)
        ∷ row 11 (reflects-gap c m)
        ∷ row 12 (reflects-mask c m)
        ∷ []

    is-lowest : number c m ≡ lowest rows
    unfolding number
    is-lowest = refl

  -- ---- superblocks without a size

  module _ (z : ¬ (0 < sb4 c)) where
    shape-fault : ShapeFault c
    shape-fault = superblock-other (⊎_elim (λ e. z (omega arith)) (λ e. z (omega arith)))

    abbrev few : List Row
    few = row 2 (reflects-level c) ∷ row 3 (reflects-depth c) ∷ row 4 (reflects-shape c) ∷ []

    is-few : number c m ≡ lowest few
    unfolding number
    is-few = rw (met (shape_bad c) (reflects-shape c)) refl
      where
        met : (b : Bool) → Reflects b (ShapeFault c) → b ≡ true
        met true r = refl
        met false r = absurd (r.no refl shape-fault)

  along : {A B : ℕ} {F : Type 0} {k : ℕ} → A ≡ B → Exactly (B ≡ k) F → Exactly (A ≡ k) F
  along e x = rw e x

  sized : {F : Type 0} {k : ℕ} → ((p : 0 < sb4 c) → Exactly (lowest (rows p) ≡ k) F) → ((z : ¬ (0 < sb4 c)) → Exactly (lowest (few z) ≡ k) F) → Exactly (number c m ≡ k) F
  sized f g = by_cases (dec_lt 0 (sb4 c)) (λ p. along (is-lowest p) (f p)) (λ z. along (is-few z) (g z))

  exactly-2 : Exactly (number c m ≡ 2) (LevelFault c)
  exactly-2 = sized (λ p. gives (rows p) refl 2 tt) (λ z. gives (few z) refl 2 tt)

  exactly-3 : Exactly (number c m ≡ 3) (DepthFault c × Clear2 c)
  exactly-3 = sized (λ p. gives (rows p) refl 3 tt) (λ z. gives (few z) refl 3 tt)

  exactly-4 : Exactly (number c m ≡ 4) (ShapeFault c × Clear3 c)
  exactly-4 = sized (λ p. exactly-then (gives (rows p) refl 4 tt) (beside first)) (λ z. exactly-then (gives (few z) refl 4 tt) (beside first))

  exactly-7 : Exactly (number c m ≡ 7) (LengthFault c m × Clear4 c)
  exactly-7 =
      sized (λ p. exactly-then (gives (rows p) refl 7 tt) (beside (none-3 (ShapeFault c))))
      (λ z. neither (λ e. ((gives (few z) refl 7 tt).only e).0) (λ q. q.1.0 (shape-fault z)))

  exactly-8 : Exactly (number c m ≡ 8) (LevelByteFault c m × Clear7 c m)
  exactly-8 =
      sized (λ p. exactly-then (gives (rows p) refl 8 tt) (beside (none-4 (LengthFault c m))))
      (λ z. neither (λ e. ((gives (few z) refl 8 tt).only e).0) (λ q. q.1.1.0 (shape-fault z)))

  exactly-9 : Exactly (number c m ≡ 9) (PlaneFault c m × Clear8 c m)
  exactly-9 =
      sized (λ p. exactly-then (gives (rows p) refl 9 tt) (beside (none-7 (LevelByteFault c m))))
      (λ z. neither (λ e. ((gives (few z) refl 9 tt).only e).0) (λ q. q.1.1.1.0 (shape-fault z)))

  exactly-10 : Exactly (number c m ≡ 10) (RowFault c × Clear9 c m)
  exactly-10 =
      sized (λ p. exactly-then (gives (rows p) refl 10 tt) (beside (none-8 (PlaneFault c m))))
      (λ z. neither (λ e. ((gives (few z) refl 10 tt).only e).0) (λ q. q.1.1.1.1.0 (shape-fault z)))

  exactly-11 : Exactly (number c m ≡ 11) (GapFault c m × Clear10 c m)
  exactly-11 =
      sized (λ p. exactly-then (gives (rows p) refl 11 tt) (beside (none-9 (RowFault c))))
      (λ z. neither (λ e. ((gives (few z) refl 11 tt).only e).0) (λ q. q.1.1.1.1.1.0 (shape-fault z)))

  exactly-12 : Exactly (number c m ≡ 12) (MaskFault c m × Clear11 c m)
  exactly-12 =
      sized (λ p. exactly-then (gives (rows p) refl 12 tt) (beside (none-10 (GapFault c m))))
      (λ z. neither (λ e. ((gives (few z) refl 12 tt).only e).0) (λ q. q.1.1.1.1.1.1.0 (shape-fault z)))

  pub exactly-0 : Exactly (number c m ≡ 0) (Clear12 c m)
  exactly-0 =
      sized (λ p. exactly-then (gives-0 (rows p) refl) (none-11 (MaskFault c m)))
      (λ z. neither (λ e. (gives-0 (few z) refl).only e (inr (inr (shape-fault z)))) (λ q. q.1.1.1.1.1.1.0 (shape-fault z)))

pub numbers : Numbers
numbers =
    record {
      two = exactly-2;
      three = exactly-3;
      four = exactly-4;
      seven = exactly-7;
      eight = exactly-8;
      nine = exactly-9;
      ten = exactly-10;
      eleven = exactly-11;
      twelve = exactly-12;
      zero = exactly-0;
    }
