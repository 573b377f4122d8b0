-- A plane that sees nothing of an accepted block stays: the block has no unit there whose bit could be set, and its contexts are put back as they were.
use mathlib.Core.Path.{◌≡◌, refl, sym, ap, ap₂, ◌∙◌}
use mathlib.Core.Bool.{Bool, true, false, ◌&&◌, ◌||◌, or-false, false≢true}
use mathlib.Core.List.{List, ◌++◌}
use Prim.Native.Nat.{ℕ, ◌<◌}
use native.Mathlib.Omega.{arith}
use lib.ListN.{get_or, take, take-append-drop}
use borrow.Author.Tests.{lt-ltb}
use Rattle.bits.specs.Mark.{is_set}
use Rattle.plane.specs.Line.{Pass, columns, rows, Piece, other}
use Rattle.units.specs.Units.{chroma_unit}
use Rattle.units.specs.Masks.{luma_bit}
use Rattle.edges.specs.Edges.{units_of, classes, edge_bit}
use Rattle.mask_edges.specs.Recording.{chroma_bits}
use Rattle.mask_edges.specs.Recording as recording
use Rattle.block.specs.declared.Block.{Block}
use Rattle.block.specs.Block.{ss-hor, ss-ver, bw4, bh4, cbw4, cbh4, sees_luma, sees_chroma, Lent, at_block}
use Rattle.record.specs.Recorded.{edge_of, in_frame, luma_block, chroma_block, chroma_edge, luma_edge, Stored}
use Rattle.record.proofs.Answers as record-calls
use Rattle.record.proofs.SoundBlocks.{fitting}
use Rattle.record.specs.Record.{Fitting}
use Rattle.agree.proofs.Marked.{no-unit}
use Rattle.drawn.specs.Run.{context_in, Unchanged}
use Rattle.drawn.specs.Calls.{RecordCall, Records, luma_state, chroma_state, luma_units, chroma_units_of}
use Rattle.drawn.proofs.Calls.{luma-shape, no-chroma}
use Rattle.drawn.proofs.ChromaCalls.{no-luma}

module _ (q : RecordCall) (level-stride : ℕ) (m n : Lent) (R : Records level-stride q m n) where
  abbrev K : Block
  K = q.block

  kept : Stored K level-stride q.values q.tx-masks (at_block K m) R.left_behind
  kept = ((record-calls.promises).each K level-stride q.values q.tx-masks 0 (at_block K m) R.left_behind R.answer).accepted refl

  fit : Fitting K
  fit = fitting K level-stride (at_block K m) (sym R.answer.code)

  pub luma-same : sees_luma K ≡ false → Unchanged (luma_units K) (luma_state m) (luma_state n)
  luma-same e = record { bits = bits; contexts = contexts }
    where
      B : recording.Block
      B = luma_block K q.tx-masks (at_block K m)

      sees : (u v : ℕ) → u < B.w4 → v < B.h4 → ⊥
      sees u v hu hv =
          let S = luma-shape K q.tx-masks (at_block K m) in
          false≢true (sym e ∙ ap₂ ◌&&◌ (lt-ltb 0 (bw4 K) (omega (arith, S.w4-is))) (lt-ltb 0 (bh4 K) (omega (arith, S.h4-is))))

      none : (x : ℕ) → luma_edge K q.tx-masks (at_block K m) x ≡ false
      none x =
          ap₂ ◌||◌ (no-unit (recording.columns B) (in_frame K luma_bit 0) x (λ u v hu hv _. sees u v hu hv))
          (no-unit (recording.rows B) (in_frame K luma_bit 1) x (λ u v hu hv _. sees v u hv hu))

      bits : (d : Pass) (p : Piece) (c : ℕ) → p.0 < units_of (luma_units K) d → p.1 < units_of (luma_units K) (other d) → c < classes (luma_units K)
          → is_set n.masks (edge_bit (luma_units K) d p c) ≡ is_set m.masks (edge_bit (luma_units K) d p c)
      bits d p c px py hc =
          ap (λ (x : Lent). is_set x.masks (edge_bit (luma_units K) d p c)) R.now-is
          ∙ kept.masks.bits (edge_bit (luma_units K) d p c)
          ∙ ap₂ (λ (x y : Bool). is_set m.masks (edge_bit (luma_units K) d p c) || (x || y)) (none (edge_bit (luma_units K) d p c)) (no-chroma K fit (at_block K m) d p c hc)
          ∙ or-false _

      contexts : (d : Pass) (j : ℕ) → context_in d (luma_state n) j ≡ context_in d (luma_state m) j
      contexts columns j =
          ap (λ (x : Lent). get_or x.left j 0) R.now-is
          ∙ ap (λ (x : List ℕ). get_or (take K.y.0 m.left ++ x) j 0) (kept.luma-stay e).1 ∙ ap (λ (x : List ℕ). get_or x j 0) (take-append-drop K.y.0 m.left)
      contexts rows j =
          ap (λ (x : Lent). get_or x.above j 0) R.now-is
          ∙ ap (λ (x : List ℕ). get_or (take K.x.0 m.above ++ x) j 0) (kept.luma-stay e).0 ∙ ap (λ (x : List ℕ). get_or x j 0) (take-append-drop K.x.0 m.above)

  pub chroma-same : sees_chroma K ≡ false → Unchanged (chroma_units_of K) (chroma_state m) (chroma_state n)
  chroma-same e = record { bits = bits; contexts = contexts }
    where
      B : recording.Block
      B = chroma_block K (at_block K m)

      sees : K.chroma ≡ true → (u v : ℕ) → u < cbw4 K → v < cbh4 K → ⊥
      sees g u v hu hv = false≢true (sym e ∙ ap₂ ◌&&◌ g (ap₂ ◌&&◌ (lt-ltb 0 (cbw4 K) (omega arith)) (lt-ltb 0 (cbh4 K) (omega arith))))

      none : (x : ℕ) → chroma_edge K (at_block K m) x ≡ false
      none x = go K.chroma refl
        where
          go : (k : Bool) → K.chroma ≡ k → (k && edge_of B (in_frame K (chroma_bits (ss-hor K) (ss-ver K))) x) ≡ false
          go false g = refl
          go true g =
              ap₂ ◌||◌ (no-unit (recording.columns B) (in_frame K (chroma_bits (ss-hor K) (ss-ver K)) 0) x (λ u v hu hv _. sees g u v hu hv))
              (no-unit (recording.rows B) (in_frame K (chroma_bits (ss-hor K) (ss-ver K)) 1) x (λ u v hu hv _. sees g v u hv hu))

      bits : (d : Pass) (p : Piece) (c : ℕ) → p.0 < units_of (chroma_units_of K) d → p.1 < units_of (chroma_units_of K) (other d) → c < classes (chroma_units_of K)
          → is_set n.masks (edge_bit (chroma_units_of K) d p c) ≡ is_set m.masks (edge_bit (chroma_units_of K) d p c)
      bits d p c px py hc =
          ap (λ (x : Lent). is_set x.masks (edge_bit (chroma_units_of K) d p c)) R.now-is
          ∙ kept.masks.bits (edge_bit (chroma_units_of K) d p c)
          ∙ ap₂ (λ (x y : Bool). is_set m.masks (edge_bit (chroma_units_of K) d p c) || (x || y)) (no-luma K fit q.tx-masks (at_block K m) d p c hc)
          (none (edge_bit (chroma_units_of K) d p c))
          ∙ or-false _

      contexts : (d : Pass) (j : ℕ) → context_in d (chroma_state n) j ≡ context_in d (chroma_state m) j
      contexts columns j =
          ap (λ (x : Lent). get_or x.left-uv j 0) R.now-is
          ∙ ap (λ (x : List ℕ). get_or (take (chroma_unit (ss-ver K) K.y.0) m.left-uv ++ x) j 0) (kept.chroma-stay e).1
          ∙ ap (λ (x : List ℕ). get_or x j 0) (take-append-drop (chroma_unit (ss-ver K) K.y.0) m.left-uv)
      contexts rows j =
          ap (λ (x : Lent). get_or x.above-uv j 0) R.now-is
          ∙ ap (λ (x : List ℕ). get_or (take (chroma_unit (ss-hor K) K.x.0) m.above-uv ++ x) j 0) (kept.chroma-stay e).0
          ∙ ap (λ (x : List ℕ). get_or x j 0) (take-append-drop (chroma_unit (ss-hor K) K.x.0) m.above-uv)
