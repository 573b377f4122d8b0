-- The block of an accepted call is what the standard's frame shows of it: sizes and codes are right since no number was given.
use mathlib.Core.Path.{◌≡◌, refl, sym, ap, ap₂, subst, ◌∙◌}
use mathlib.Core.Bool.{Bool, true, false, cond, not, ◌&&◌, and-true}
use mathlib.Core.List.{List}
use Prim.Native.Nat.{ℕ, ◌+◌, ◌-◌, ◌%◌, ◌≤◌, ◌<◌}
use native.Mathlib.Omega.{arith}
use borrow.Author.Tests.{eqb-true, eqb-false}
use Rattle.plane.specs.Line.{columns, rows}
use Rattle.standard.specs.Sizes.{Num_4x4_Blocks_Wide, Num_4x4_Blocks_High, Tx_Wide, Tx_High}
use Rattle.standard.specs.Edge.{Frame}
use Rattle.units.specs.Units.{chroma_unit, chroma_units}
use Rattle.decomp.specs.Split.{tx_at}
use Rattle.mask_edges.specs.Recording.{intra_block, inter_block}
use Rattle.mask_edges.specs.Recording as recording
use Rattle.block.specs.declared.Block.{Block}
use Rattle.block.specs.Block.{ss-hor, ss-ver, bw4, bh4, cbw4, cbh4, Lent}
use Rattle.block.specs.Block as block
use Rattle.block.specs.Faults.{BlockFault}
use Rattle.block.specs.Faults as faults
use Rattle.record.specs.Record.{RecordAnswer, cbx4, cby4}
use Rattle.record.proofs.Answers as record-calls
use Rattle.agree.specs.Legal.{Coded, left, top, block_width, block_height, Shows, Sized}
use Rattle.agree.proofs.Theorems as agree
use Rattle.drawn.proofs.Calls.{luma-shape}
use Rattle.recorded_edges.specs.Held.{ss_in, place_in, SeenIn, block_tx, HoldsBlock}
use Rattle.recorded_edges.proofs.Views.{block_in, given_in, fits}

at_most : (a b : ℕ) → ¬ (b < a) → a ≤ b
at_most a b n = omega arith

module _ (D : Frame) (plane : ℕ) (C : Coded) (luma : Bool) (b : Block) (tm : List ℕ) (H : HoldsBlock D plane C luma b tm) where
  pub left_is : left D plane C ≡ place_in luma b columns
  left_is = ap₂ chroma_unit H.right-ss H.col

  pub top-is : top D plane C ≡ place_in luma b rows
  top-is = ap₂ chroma_unit H.down-ss H.row

  wide_is : block_width D plane C ≡ chroma_units (ss_in luma b columns) (block.block_width b)
  wide_is = ap₂ (λ (s c : ℕ). chroma_units s (Num_4x4_Blocks_Wide c)) H.right-ss H.size

  high_is : block_height D plane C ≡ chroma_units (ss_in luma b rows) (block.block_height b)
  high_is = ap₂ (λ (s c : ℕ). chroma_units s (Num_4x4_Blocks_High c)) H.down-ss H.size

  known_at : (x y : ℕ) → SeenIn luma b columns (place_in luma b columns + x, place_in luma b rows + y)
      → D.TxSizes plane (top D plane C + y) (left D plane C + x) ≡ block_tx luma b tm x y
  known_at x y s =
      ap₂ (λ (t l : ℕ). D.TxSizes plane (t + y) (l + x)) top-is left_is
      ∙ H.known (place_in luma b columns + x, place_in luma b rows + y) s
      ∙ ap₂ (block_tx luma b tm) (back (place_in luma b columns) x) (back (place_in luma b rows) y)
    where
      back : (n x : ℕ) → n + x - n ≡ x
      back n x = omega arith

module _ (D : Frame) (C : Coded) (b : Block) (level-stride : ℕ) (values tm : List ℕ) (before after : Lent) (R : RecordAnswer b level-stride values tm 0 before after) where
  sound : ¬ BlockFault b
  sound = (((record-calls.promises).each b level-stride values tm 0 before after R).zero.only refl).2

  luma-shows : HoldsBlock D 0 C true b tm → 0 < bw4 b → 0 < bh4 b → Shows D 0 C (block_in true b tm before)
  unfolding bw4 bh4
  luma-shows H w h = go b.inter refl
    where
      sized : (tx : ℕ → ℕ → ℕ) → ((x y : ℕ) → block_tx true b tm x y ≡ tx x y) → Sized D 0 C (bw4 b) (bh4 b) b.tx tx
      sized tx e =
          record {
            wide-seen = (w, omega (arith, wide_is D 0 C true b tm H));
            high-seen = (h, omega (arith, high_is D 0 C true b tm H));
            code = (fits b level-stride values tm before after R).tx;
            fits = (
              omega (arith, wide_is D 0 C true b tm H, at_most (Tx_Wide b.tx) (block.block_width b) (λ f. sound (faults.tx (faults.wider f)))),
              omega (arith, high_is D 0 C true b tm H, at_most (Tx_High b.tx) (block.block_height b) (λ f. sound (faults.tx (faults.higher f)))),
            );
            known = λ x y p q. known_at D 0 C true b tm H x y (record { across = omega arith; down = omega arith }) ∙ e x y;
          }

      go : (i : Bool) → b.inter ≡ i
          → Shows D 0 C (cond i (inter_block (b.y.0 % 32) (b.x.0 % 32) (bw4 b) (bh4 b) b.skip b.tx tm before.above before.left)
          (intra_block (b.y.0 % 32) (b.x.0 % 32) (bw4 b) (bh4 b) b.tx before.above before.left))
      go true e =
          let inter : C.is_intra ≡ false = H.intra ∙ ap not e in
          let skip : C.Skip ≡ b.skip = sym (H.skip ∙ ap (λ (x : Bool). C.Skip && not x) inter ∙ and-true C.Skip) in
          subst (λ (s : Bool). Shows D 0 C (inter_block (b.y.0 % 32) (b.x.0 % 32) (bw4 b) (bh4 b) s b.tx tm before.above before.left)) skip
          ((agree.promises).inter D C (b.y.0 % 32) (b.x.0 % 32) (bw4 b) (bh4 b) b.tx tm before.above before.left
          (sized (tx_at tm b.tx) (λ x y. ap (λ (i : Bool). cond i (tx_at tm b.tx x y) b.tx) e)) inter)
      go false e =
          (agree.promises).intra D C (b.y.0 % 32) (b.x.0 % 32) (bw4 b) (bh4 b) b.tx before.above before.left
          (sized (λ _ _. b.tx) (λ x y. ap (λ (i : Bool). cond i (tx_at tm b.tx x y) b.tx) e)) (H.intra ∙ ap not e)

  chroma-shows : (plane : ℕ) → HoldsBlock D plane C false b tm → b.chroma ≡ true → 0 < cbw4 b → 0 < cbh4 b → Shows D plane C (block_in false b tm before)
  unfolding cbw4 cbh4
  chroma-shows plane H g w h =
      subst (λ (s : Bool). Shows D plane C (recording.chroma_block (cby4 b) (cbx4 b) (cbw4 b) (cbh4 b) s b.uvtx before.above-uv before.left-uv)) (sym H.skip)
      ((agree.promises).chroma D plane C (cby4 b) (cbx4 b) (cbw4 b) (cbh4 b) b.uvtx before.above-uv before.left-uv some-chroma
      (record {
        wide-seen = (w, omega (arith, wide_is D plane C false b tm H));
        high-seen = (h, omega (arith, high_is D plane C false b tm H));
        code = (fits b level-stride values tm before after R).uvtx g;
        fits = (
          omega (arith, wide_is D plane C false b tm H, at_most (Tx_Wide b.uvtx) (chroma_units (ss-hor b) (block.block_width b)) (λ f. sound (faults.tx (faults.uv-wider g f)))),
          omega (arith, high_is D plane C false b tm H, at_most (Tx_High b.uvtx) (chroma_units (ss-ver b) (block.block_height b)) (λ f. sound (faults.tx (faults.uv-higher g f)))),
        );
        known = λ x y p q. known_at D plane C false b tm H x y (record { given = g; across = omega arith; down = omega arith });
      }))
    where
      some-chroma : 0 < plane
      some-chroma = let n = eqb-false plane 0 H.plane-is in omega arith

  pub shows : (plane : ℕ) (luma : Bool) → HoldsBlock D plane C luma b tm → given_in luma b ≡ true → 0 < (block_in luma b tm before).w4 → 0 < (block_in luma b tm before).h4
      → Shows D plane C (block_in luma b tm before)
  shows plane true H g w h =
      subst (λ (q : ℕ). HoldsBlock D q C true b tm → Shows D q C (block_in true b tm before)) (sym (eqb-true plane 0 H.plane-is))
      (λ K. luma-shows K (omega (arith, (luma-shape b tm before).w4-is)) (omega (arith, (luma-shape b tm before).h4-is))) H
  shows plane false H g w h = chroma-shows plane H g w h
