-- The number of a correction, exactly when: each test reflects its fault, and the table of rows gives the lowest.
use mathlib.Core.Bool.{Bool, true, false, not, ◌||◌}
use mathlib.Core.List.{List, [], ◌∷◌}
use mathlib.Core.Logic.{◌⊎◌, inl, inr, ⊎_elim, by_cases}
use mathlib.Core.Path.{◌≡◌, refl}
use Prim.Native.Nat.{ℕ, ◌<◌, ◌≤◌}
use native.Mathlib.Decide.{dec_lt}
use native.Mathlib.Omega.{arith}
use Rattle.loops.specs.Exactly.{Exactly, Reflects, Row, row}
use Rattle.loops.proofs.Reflected.{exactly-then, reflects-ltb, reflects-flag, reflects-as, reflects-not, reflects-and, reflects-or}
use Rattle.loops.proofs.Numbers.{gives, gives-0}
use Rattle.units.specs.Layout.{Layout, has_chroma}
use Rattle.units.specs.Frame.{superblocks}
use Rattle.units.proofs.Tests.{reflects-layout, reflects-chroma, reflects-frame, reflects-superblock, reflects-masks}
use Rattle.block.specs.Faults.{ContextFault}
use Rattle.block.proofs.Numbers.{reflects-context}
use Rattle.correct.specs.declared.Start.{Start}
use Rattle.correct.specs.Start.{w4, h4, sb4, begin, inside}
use Rattle.correct.specs.Tests.{shape_bad, units_along, most, context_refused, length_bad, number}
use Rattle.correct.specs.Faults.{ShapeFault, layout-other, size-outside, superblock-other, Corrects}
use Rattle.correct.specs.Faults.{ContextsFault, luma, chroma, LengthFault, OutsideFault, row-outside, start_outside}

module _ (t : Start) where
  reflects-shape : Reflects (shape_bad t) (ShapeFault t)
  reflects-shape =
      reflects-as (record { only = ⊎_elim (⊎_elim layout-other size-outside) superblock-other; always = plain })
      (reflects-or (reflects-or (reflects-not (reflects-layout t.layout)) (reflects-not (reflects-frame t.width.0 t.height.0)))
      (reflects-not (reflects-superblock t.superblock)))
    where
      plain : ShapeFault t → ((¬ Layout t.layout) ⊎ (¬ (((1 ≤ t.width.0) × (t.width.0 ≤ 16384)) × ((1 ≤ t.height.0) × (t.height.0 ≤ 16384)))))
          ⊎ (¬ ((t.superblock ≡ 64) ⊎ (t.superblock ≡ 128)))
      plain (layout-other n) = inl (inl n)
      plain (size-outside n) = inl (inr n)
      plain (superblock-other n) = inr n

  abbrev InFrame : Type 0
  InFrame = (t.row < superblocks (h4 t) (sb4 t)) × (t.start < superblocks (w4 t) (sb4 t))

  reflects-inside : Reflects (inside t) InFrame
  reflects-inside = reflects-and (reflects-ltb t.row (superblocks (h4 t) (sb4 t))) (reflects-ltb t.start (superblocks (w4 t) (sb4 t)))

  reflects-outside : Reflects (not (inside t)) (OutsideFault t)
  reflects-outside = reflects-as (record { only = out; always = plain }) (reflects-not reflects-inside)
    where
      out : ¬ InFrame → OutsideFault t
      out n =
          by_cases (dec_lt t.row (superblocks (h4 t) (sb4 t)))
          (λ p. by_cases (dec_lt t.start (superblocks (w4 t) (sb4 t))) (λ q. absurd (n (p, q))) (λ q. start_outside (omega arith)))
          (λ p. row-outside (omega arith))

      plain : OutsideFault t → ¬ InFrame
      plain (row-outside h) p = omega (arith, p.0)
      plain (start_outside h) p = omega (arith, p.1)

  reflects-length : (masks : ℕ) → Reflects (length_bad t masks) (LengthFault t masks)
  reflects-length masks =
      reflects-as (record { only = λ n. omega arith; always = λ h n. omega arith }) (reflects-not (reflects-masks masks (w4 t) (h4 t)))

  -- 6 in one plane
  abbrev PlaneFacts : Bool → Type 0 → List ℕ → Type 0
  PlaneFacts b K c = (K × (InFrame × (0 < begin t))) × ContextFault (units_along t b) (most b) c

  reflects-plane : (b : Bool) (K : Type 0) (c : List ℕ) → Reflects (b || has_chroma t.layout) K → Reflects (context_refused t b c) (PlaneFacts b K c)
  reflects-plane b K c r =
      reflects-and (reflects-and r (reflects-and reflects-inside (reflects-ltb 0 (begin t)))) (reflects-context (units_along t b) (most b) c)

  settled : InFrame × (0 < begin t) → Corrects t
  settled p = record { row_in = p.0.0; start-in = p.0.1; not_first = p.1 }

  parts : Corrects t → InFrame × (0 < begin t)
  parts c = ((c.row_in, c.start-in), c.not_first)

  module _ (context context-uv : List ℕ) where
    abbrev LumaFacts : Type 0
    LumaFacts = PlaneFacts true (true ≡ true) context

    abbrev ChromaFacts : Type 0
    ChromaFacts = PlaneFacts false (¬ (t.layout ≡ 400)) context-uv

    contexts : Exactly (LumaFacts ⊎ ChromaFacts) (ContextsFault t context context-uv)
    contexts =
        record {
          only = ⊎_elim (λ p. luma (settled p.0.1) p.1) (λ p. chroma p.0.0 (settled p.0.1) p.1);
          always = plain;
        }
      where
        plain : ContextsFault t context context-uv → LumaFacts ⊎ ChromaFacts
        plain (luma c f) = inl ((refl, parts c), f)
        plain (chroma n c f) = inr ((n, parts c), f)

    -- ---- the table

    module _ (masks : ℕ) where
      abbrev rows : List Row
      rows =
          row 4 reflects-shape
          ∷ row 6 (reflects-plane true (true ≡ true) context (reflects-flag true))
          ∷ row 6 (reflects-plane false (¬ (t.layout ≡ 400)) context-uv (reflects-chroma t.layout))
          ∷ row 7 (reflects-length masks)
          ∷ row 10 reflects-outside
          ∷ []

      pub exactly-4 : Exactly (number t masks context context-uv ≡ 4) (ShapeFault t)
      unfolding number
      exactly-4 = gives rows refl 4 tt

      pub exactly-6 : Exactly (number t masks context context-uv ≡ 6) (ContextsFault t context context-uv × (¬ ShapeFault t))
      unfolding number
      exactly-6 =
          exactly-then (gives rows refl 6 tt)
          (record { only = λ p. (contexts.only p.0, p.1); always = λ p. (contexts.always p.0, p.1) })

      pub exactly-7 : Exactly (number t masks context context-uv ≡ 7) (LengthFault t masks × (¬ ContextsFault t context context-uv) × (¬ ShapeFault t))
      unfolding number
      exactly-7 =
          exactly-then (gives rows refl 7 tt)
          (record {
            only = λ p. (p.0, λ c. p.1 (inr (contexts.always c)), λ s. p.1 (inl s));
            always = λ p. (p.0, ⊎_elim p.2 (λ c. p.1 (contexts.only c)));
          })

      pub exactly-10 : Exactly (number t masks context context-uv ≡ 10)
          (OutsideFault t × (¬ LengthFault t masks) × (¬ ContextsFault t context context-uv) × (¬ ShapeFault t))
      unfolding number
      exactly-10 =
          exactly-then (gives rows refl 10 tt)
          (record {
            only = λ p. (p.0, λ h. p.1 (inr (inr (inr h))), λ c. p.1 (inr (⊎_elim inl (λ u. inr (inl u)) (contexts.always c))), λ s. p.1 (inl s));
            always = λ p. (p.0, ⊎_elim p.3 (⊎_elim (λ l. p.2 (contexts.only (inl l))) (⊎_elim (λ u. p.2 (contexts.only (inr u))) p.1)));
          })

      pub exactly-0 : Exactly (number t masks context context-uv ≡ 0)
          ((¬ OutsideFault t) × (¬ LengthFault t masks) × (¬ ContextsFault t context context-uv) × (¬ ShapeFault t))
      unfolding number
      exactly-0 =
          exactly-then (gives-0 rows refl)
          (record {
            only = λ n. (λ o. n (inr (inr (inr (inr o)))), λ h. n (inr (inr (inr (inl h)))), λ c. n (inr (⊎_elim inl (λ u. inr (inl u)) (contexts.always c))), λ s. n (inl s));
            always =
                λ p. ⊎_elim p.3 (⊎_elim (λ l. p.2 (contexts.only (inl l))) (⊎_elim (λ u. p.2 (contexts.only (inr u))) (⊎_elim p.1 p.0)));
          })
