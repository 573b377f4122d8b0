-- The number of a block, exactly when: each test reflects its fault, and the faults are those of document 01 by their constructors.
use mathlib.Core.Bool.{true}
use mathlib.Core.List.{List, [], ◌∷◌}
use mathlib.Core.Logic.{◌⊎◌, inl, inr, ⊎_elim, by_cases}
use mathlib.Core.Path.{◌≡◌, refl, sym, ◌∙◌}
use Prim.Native.Nat.{ℕ, ◌+◌, ◌*◌, ◌/◌, ◌%◌, ◌<◌, ◌≤◌}
use native.Mathlib.Decide.{ℕ_discrete, dec_lt}
use native.Mathlib.Nat.{div-add-mod', mul-mod_left}
use native.Mathlib.Omega.{arith}
use lib.Dec.{ltb}
use lib.ListN.{length, get_or}
use Rattle.loops.specs.Any.{Below}
use Rattle.loops.specs.Exactly.{Exactly, Reflects, Row, row}
use Rattle.loops.proofs.Reflected.{exactly-then, reflects-ltb, reflects-eqb, reflects-flag, reflects-as, reflects-not, reflects-and, reflects-or, reflects-any}
use Rattle.loops.proofs.Numbers.{gives, gives-0}
use Rattle.standard.specs.Sizes.{Tx_Wide, Tx_High, Max_Tx_Size_Rect}
use Rattle.units.specs.Units.{chroma_units}
use Rattle.units.specs.Layout.{Layout}
use Rattle.units.specs.Frame.{frame_records}
use Rattle.units.proofs.Tests.{reflects-layout, reflects-chroma, reflects-frame, reflects-levels, reflects-masks}
use Rattle.block.specs.declared.Block.{Block}
use Rattle.block.specs.Block.{w4, h4, block_width, block_height, ss-hor, ss-ver, bw4, bh4, cbw4, cbh4, Lent}
use Rattle.block.specs.Tests.{shape_bad, code_bad, place_bad, tx_bad, max_tx_bad, ref_bad, context_bad, luma_contexts_bad, chroma_contexts_bad, length_bad, number}
use Rattle.block.specs.Faults.{Multiple, ShapeFault, layout-other, size-outside, pair-at-400}
use Rattle.block.specs.Faults.{CodeFault, size_above, tx-above, uvtx-above, PlaceFault, x-between, y-between, x-past, y-past}
use Rattle.block.specs.Faults.{TxFault, wider, higher, uv-wider, uv-higher, LargestFault, neither, ReferenceFault, reference-above}
use Rattle.block.specs.Faults.{BlockFault, code, place, tx, largest, reference, ContextFault, fewer, above-range}
use Rattle.block.specs.Faults.{ContextsFault, above, left, above-uv, left-uv, LengthFault, stride-below, levels-short, masks-short}

module _ (b : Block) where
  reflects-shape : Reflects (shape_bad b) (ShapeFault b)
  reflects-shape =
      reflects-as (record { only = ⊎_elim (⊎_elim layout-other size-outside) (λ p. pair-at-400 p.0 (settled p.1)); always = plain })
      (reflects-or (reflects-or (reflects-not (reflects-layout b.layout)) (reflects-not (reflects-frame b.width.0 b.height.0)))
      (reflects-and (reflects-flag b.chroma) (reflects-not (reflects-chroma b.layout))))
    where
      settled : ¬ (¬ (b.layout ≡ 400)) → b.layout ≡ 400
      settled n = by_cases (ℕ_discrete b.layout 400) (λ e. e) (λ f. absurd (n f))

      plain : ShapeFault b → ((¬ Layout b.layout) ⊎ (¬ (((1 ≤ b.width.0) × (b.width.0 ≤ 16384)) × ((1 ≤ b.height.0) × (b.height.0 ≤ 16384)))))
          ⊎ ((b.chroma ≡ true) × (¬ (¬ (b.layout ≡ 400))))
      plain (layout-other n) = inl (inl n)
      plain (size-outside n) = inl (inr n)
      plain (pair-at-400 c e) = inr (c, λ n. n e)

  reflects-code : Reflects (code_bad b) (CodeFault b)
  reflects-code =
      reflects-as (record { only = ⊎_elim (⊎_elim size_above tx-above) (λ p. uvtx-above p.0 p.1); always = plain })
      (reflects-or (reflects-or (reflects-ltb 21 b.size) (reflects-ltb 18 b.tx)) (reflects-and (reflects-flag b.chroma) (reflects-ltb 18 b.uvtx)))
    where
      plain : CodeFault b → ((21 < b.size) ⊎ (18 < b.tx)) ⊎ ((b.chroma ≡ true) × (18 < b.uvtx))
      plain (size_above h) = inl (inl h)
      plain (tx-above h) = inl (inr h)
      plain (uvtx-above c h) = inr (c, h)

  -- no remainder, and a multiple
  multiple : (u n : ℕ) → Exactly (u % n ≡ 0) (Multiple u n)
  multiple u n =
      record {
        only = λ e. (u / n, sym (div-add-mod' u n) ∙ (let z : u / n * n + u % n ≡ u / n * n = omega arith in z));
        always = λ p. rw p.1 (mul-mod_left p.0 n);
      }

  reflects-place : Reflects (place_bad b) (PlaceFault b)
  reflects-place =
      reflects-as (record { only = ⊎_elim (⊎_elim x-between y-between) (⊎_elim x-past y-past); always = plain })
      (reflects-or
      (reflects-or (reflects-not (reflects-as (multiple b.x.0 (block_width b)) (reflects-eqb (b.x.0 % block_width b) 0)))
      (reflects-not (reflects-as (multiple b.y.0 (block_height b)) (reflects-eqb (b.y.0 % block_height b) 0))))
      (reflects-or (reflects-ltb (w4 b) b.x.0) (reflects-ltb (h4 b) b.y.0)))
    where
      plain : PlaceFault b → ((¬ Multiple b.x.0 (block_width b)) ⊎ (¬ Multiple b.y.0 (block_height b))) ⊎ ((w4 b < b.x.0) ⊎ (h4 b < b.y.0))
      plain (x-between n) = inl (inl n)
      plain (y-between n) = inl (inr n)
      plain (x-past h) = inr (inl h)
      plain (y-past h) = inr (inr h)

  reflects-tx : Reflects (tx_bad b) (TxFault b)
  reflects-tx =
      reflects-as (record { only = ⊎_elim (⊎_elim wider higher) (λ p. ⊎_elim (uv-wider p.0) (uv-higher p.0) p.1); always = plain })
      (reflects-or (reflects-or (reflects-ltb (block_width b) (Tx_Wide b.tx)) (reflects-ltb (block_height b) (Tx_High b.tx)))
      (reflects-and (reflects-flag b.chroma)
      (reflects-or (reflects-ltb (chroma_units (ss-hor b) (block_width b)) (Tx_Wide b.uvtx)) (reflects-ltb (chroma_units (ss-ver b) (block_height b)) (Tx_High b.uvtx)))))
    where
      plain : TxFault b → ((block_width b < Tx_Wide b.tx) ⊎ (block_height b < Tx_High b.tx))
          ⊎ ((b.chroma ≡ true) × ((chroma_units (ss-hor b) (block_width b) < Tx_Wide b.uvtx) ⊎ (chroma_units (ss-ver b) (block_height b) < Tx_High b.uvtx)))
      plain (wider h) = inl (inl h)
      plain (higher h) = inl (inr h)
      plain (uv-wider c h) = inr (c, inl h)
      plain (uv-higher c h) = inr (c, inr h)

  reflects-largest : Reflects (max_tx_bad b) (LargestFault b)
  reflects-largest =
      reflects-as (record { only = λ p. neither p.0 p.1.0 p.1.1; always = plain })
      (reflects-and (reflects-flag b.inter) (reflects-and (reflects-not (reflects-eqb b.tx (Max_Tx_Size_Rect b.size))) (reflects-not (reflects-eqb b.tx 0))))
    where
      plain : LargestFault b → (b.inter ≡ true) × ((¬ (b.tx ≡ Max_Tx_Size_Rect b.size)) × (¬ (b.tx ≡ 0)))
      plain (neither i m z) = (i, (m, z))

  reflects-reference : Reflects (ref_bad b) (ReferenceFault b)
  reflects-reference =
      reflects-as (record { only = λ p. reference-above p.0 p.1; always = plain }) (reflects-and (reflects-flag b.inter) (reflects-ltb 7 b.reference))
    where
      plain : ReferenceFault b → (b.inter ≡ true) × (7 < b.reference)
      plain (reference-above i h) = (i, h)

pub reflects-context : (n most : ℕ) (c : List ℕ) → Reflects (context_bad n most c) (ContextFault n most c)
reflects-context n most c =
    reflects-as (record { only = ⊎_elim fewer (λ p. above-range p.0 p.1 p.2); always = plain })
    (reflects-or (reflects-ltb (length c) n) (reflects-any n (λ i. ltb most (get_or c i 0)) (λ i. most < get_or c i 0) (λ i _. reflects-ltb most (get_or c i 0))))
  where
    plain : ContextFault n most c → (length c < n) ⊎ Below n (λ i. most < get_or c i 0)
    plain (fewer h) = inl h
    plain (above-range i h g) = inr (i, h, g)

module _ (b : Block) (m : Lent) where
  abbrev LumaFacts : Type 0
  LumaFacts = ((0 < bw4 b) × (0 < bh4 b)) × (ContextFault (bw4 b) 2 m.above ⊎ ContextFault (bh4 b) 2 m.left)

  abbrev ChromaFacts : Type 0
  ChromaFacts = ((b.chroma ≡ true) × ((0 < cbw4 b) × (0 < cbh4 b))) × (ContextFault (cbw4 b) 1 m.above-uv ⊎ ContextFault (cbh4 b) 1 m.left-uv)

  reflects-luma : Reflects (luma_contexts_bad b m.above m.left) LumaFacts
  reflects-luma =
      reflects-and (reflects-and (reflects-ltb 0 (bw4 b)) (reflects-ltb 0 (bh4 b))) (reflects-or (reflects-context (bw4 b) 2 m.above) (reflects-context (bh4 b) 2 m.left))

  reflects-uv : Reflects (chroma_contexts_bad b m.above-uv m.left-uv) ChromaFacts
  reflects-uv =
      reflects-and (reflects-and (reflects-flag b.chroma) (reflects-and (reflects-ltb 0 (cbw4 b)) (reflects-ltb 0 (cbh4 b))))
      (reflects-or (reflects-context (cbw4 b) 1 m.above-uv) (reflects-context (cbh4 b) 1 m.left-uv))

  contexts : Exactly (LumaFacts ⊎ ChromaFacts) (ContextsFault b m)
  contexts =
      record {
        only = ⊎_elim (λ p. ⊎_elim (above p.0) (left p.0) p.1) (λ p. ⊎_elim (above-uv p.0.0 p.0.1) (left-uv p.0.0 p.0.1) p.1);
        always = plain;
      }
    where
      plain : ContextsFault b m → LumaFacts ⊎ ChromaFacts
      plain (above s f) = inl (s, inl f)
      plain (left s f) = inl (s, inr f)
      plain (above-uv c s f) = inr ((c, s), inl f)
      plain (left-uv c s f) = inr ((c, s), inr f)

  reflects-lengths : (level-stride : ℕ) → Reflects (length_bad b level-stride (length m.levels) (length m.masks)) (LengthFault b level-stride m)
  reflects-lengths level-stride =
      reflects-as (record { only = ⊎_elim short (λ n. masks-short (omega arith)); always = plain })
      (reflects-or (reflects-not (reflects-levels (length m.levels) level-stride (w4 b) (h4 b))) (reflects-not (reflects-masks (length m.masks) (w4 b) (h4 b))))
    where
      short : ¬ ((w4 b ≤ level-stride) × (4 * level-stride * h4 b ≤ length m.levels)) → LengthFault b level-stride m
      short n =
          by_cases (dec_lt level-stride (w4 b)) stride-below
          (λ f. let g : ¬ (4 * level-stride * h4 b ≤ length m.levels) = λ h. n (omega arith, h) in levels-short (omega arith))

      plain : LengthFault b level-stride m → (¬ ((w4 b ≤ level-stride) × (4 * level-stride * h4 b ≤ length m.levels))) ⊎ (¬ (640 * frame_records (w4 b) (h4 b) ≤ length m.masks))
      plain (stride-below h) = inl (λ p. omega (arith, p.0))
      plain (levels-short h) = inl (λ p. omega (arith, p.1))
      plain (masks-short h) = inr (λ p. omega arith)

-- ---- the table

module _ (b : Block) (level-stride : ℕ) (m : Lent) where
  abbrev rows : List Row
  rows =
      row 4 (reflects-shape b)
      ∷ row 5 (reflects-code b)
      ∷ row 5 (reflects-place b)
      ∷ row 5 (reflects-tx b)
      ∷ row 5 (reflects-largest b)
      ∷ row 5 (reflects-reference b)
      ∷ row 6 (reflects-luma b m)
      ∷ row 6 (reflects-uv b m)
      ∷ row 7 (reflects-lengths b m level-stride)
      ∷ []

  -- the rows of 5, and X after them
  abbrev Five : Type 0 → Type 0
  Five X = CodeFault b ⊎ (PlaceFault b ⊎ (TxFault b ⊎ (LargestFault b ⊎ X)))

  into : {X : Type 0} → (ReferenceFault b → X) → BlockFault b → Five X
  into f (code c) = inl c
  into f (place p) = inr (inl p)
  into f (tx t) = inr (inr (inl t))
  into f (largest l) = inr (inr (inr (inl l)))
  into f (reference r) = inr (inr (inr (inr (f r))))

  out : {X Y : Type 0} → (BlockFault b → Y) → (X → Y) → Five X → Y
  out f g = ⊎_elim (λ c. f (code c)) (⊎_elim (λ p. f (place p)) (⊎_elim (λ t. f (tx t)) (⊎_elim (λ l. f (largest l)) g)))

  pub exactly-4 : Exactly (number b level-stride m ≡ 4) (ShapeFault b)
  unfolding number
  exactly-4 = gives rows refl 4 tt

  pub exactly-5 : Exactly (number b level-stride m ≡ 5) (BlockFault b × (¬ ShapeFault b))
  unfolding number
  exactly-5 =
      exactly-then (gives rows refl 5 tt)
      (record { only = λ p. (out (λ f. f) reference p.0, p.1); always = λ p. (into (λ r. r) p.0, p.1) })

  pub exactly-6 : Exactly (number b level-stride m ≡ 6) (ContextsFault b m × (¬ BlockFault b) × (¬ ShapeFault b))
  unfolding number
  exactly-6 =
      exactly-then (gives rows refl 6 tt)
      (record {
        only = λ p. ((contexts b m).only p.0, λ f. p.1 (inr (into (λ r. r) f)), λ s. p.1 (inl s));
        always = λ p. ((contexts b m).always p.0, ⊎_elim p.2 (out p.1 (λ r. p.1 (reference r))));
      })

  pub exactly-7 : Exactly (number b level-stride m ≡ 7) (LengthFault b level-stride m × (¬ ContextsFault b m) × (¬ BlockFault b) × (¬ ShapeFault b))
  unfolding number
  exactly-7 =
      exactly-then (gives rows refl 7 tt)
      (record {
        only = λ p. (p.0, λ c. p.1 (inr (inr (inr (inr (inr (inr ((contexts b m).always c))))))), λ f. p.1 (inr (into inl f)), λ s. p.1 (inl s));
        always = λ p. (p.0, ⊎_elim p.3 (out p.2 (⊎_elim (λ r. p.2 (reference r)) (λ c. p.1 ((contexts b m).only c)))));
      })

  pub exactly-0 : Exactly (number b level-stride m ≡ 0) ((¬ LengthFault b level-stride m) × (¬ ContextsFault b m) × (¬ BlockFault b) × (¬ ShapeFault b))
  unfolding number
  exactly-0 =
      exactly-then (gives-0 rows refl)
      (record {
        only = λ n. (
          λ h. n (inr (inr (inr (inr (inr (inr (inr (inr h)))))))),
          λ c. n (inr (inr (inr (inr (inr (inr (⊎_elim inl (λ u. inr (inl u)) ((contexts b m).always c)))))))),
          λ f. n (inr (into inl f)),
          λ s. n (inl s),
        );
        always =
            λ p. ⊎_elim p.3 (out p.2 (⊎_elim (λ r. p.2 (reference r))
            (⊎_elim (λ l. p.1 ((contexts b m).only (inl l))) (⊎_elim (λ u. p.1 ((contexts b m).only (inr u))) p.0))));
      })
