-- Of a context only the block's own units are looked at and stored, so that lending them is lending all: each turn of a pass is at its own unit.
use mathlib.Core.Bool.{Bool, true, false, cond}
use mathlib.Core.List.{List, ◌++◌}
use mathlib.Core.Path.{◌≡◌, sym, ap, ◌∙◌}
use Prim.Native.Nat.{ℕ, zero, suc, ◌+◌, ◌-◌, ◌/◌, ◌%◌, ◌≤◌, min}
use native.Mathlib.Nat.{le_refl}
use native.Mathlib.Omega.{arith}
use lib.ListN.{length, get_or, set, take, drop, length-set, take-append-drop}
use lib.Seq.{get_or-take, length-take-le, set-append_left}
use Rattle.loops.proofs.Runs.{up_to-same, up_to-holds}
use Rattle.bits.specs.Mark.{mark, marks}
use Rattle.standard.specs.Sizes.{Tx_Wide, Tx_High}
use Rattle.units.specs.Sizes.{luma_class, chroma_class}
use Rattle.mask_edges.specs.declared.edge.BlockPass.{BlockPass}
use Rattle.mask_edges.specs.Folds.{bit_in, block_edge, step_edges, line_edges, grid_pass, cell_pass, grid_masks, cell_masks, stores, class_in, step_in, tables}
use Rattle.mask_edges.specs.Folds as folds
use Rattle.block.specs.declared.Block.{Block}
use Rattle.block.specs.Block.{bw4, bh4, cbw4, cbh4, sees_luma, sees_chroma}
use Rattle.record.specs.Record.{record_at, in_record, luma_masks, chroma_masks}

-- ---- masks

module _ (bit : ℕ → ℕ → ℕ → ℕ) (across along : ℕ) (skip : Bool) (c ms : List ℕ) where
  block_near : (class : ℕ → ℕ) → block_edge bit along class (λ v. get_or (take along c) v 0) ms ≡ block_edge bit along class (λ v. get_or c v 0) ms
  unfolding block_edge marks
  block_near class =
      up_to-same (λ v ms. mark ms (bit 0 (min (class v) (get_or (take along c) v 0)) v)) (λ v ms. mark ms (bit 0 (min (class v) (get_or c v 0)) v)) along
      (λ v l ms. ap (λ (k : ℕ). mark ms (bit 0 (min (class v) k) v)) (get_or-take along c v 0 l)) ms

  grid-pass : (step class : ℕ)
      → grid_pass bit across along step class skip (λ v. get_or (take along c) v 0) ms ≡ grid_pass bit across along step class skip (λ v. get_or c v 0) ms
  unfolding grid_pass
  grid-pass step class = ap (λ (m : List ℕ). cond skip m (step_edges bit along step class ((across - 1) / step) m)) (block_near (λ _. class))

  cell-pass : (class step : ℕ → ℕ → ℕ)
      → cell_pass bit across along class step skip (λ v. get_or (take along c) v 0) ms ≡ cell_pass bit across along class step skip (λ v. get_or c v 0) ms
  unfolding cell_pass
  cell-pass class step = ap (λ (m : List ℕ). cond skip m (line_edges bit across class step along m)) (block_near (class 0))

module _ (c r : BlockPass) (skip : Bool) (a l ms : List ℕ) where
  grid-masks : (class : ℕ → ℕ) (t : ℕ) → grid_masks c r class t skip (take r.along a) (take c.along l) ms ≡ grid_masks c r class t skip a l ms
  unfolding grid_masks
  grid-masks class t =
      grid-pass (bit_in r) r.across r.along skip a _ (Tx_High t) (class (Tx_High t))
      ∙ ap (grid_pass (bit_in r) r.across r.along (Tx_High t) (class (Tx_High t)) skip (λ x. get_or a x 0))
      (grid-pass (bit_in c) c.across c.along skip l ms (Tx_Wide t) (class (Tx_Wide t)))

  cell-masks : (txa : List ℕ) → cell_masks c r txa skip (take r.along a) (take c.along l) ms ≡ cell_masks c r txa skip a l ms
  unfolding cell_masks
  cell-masks txa =
      cell-pass (bit_in r) r.across r.along skip a _ (class_in txa r) (step_in txa r)
      ∙ ap (cell_pass (bit_in r) r.across r.along (class_in txa r) (step_in txa r) skip (λ x. get_or a x 0))
      (cell-pass (bit_in c) c.across c.along skip l ms (class_in txa c) (step_in txa c))

same-record : (p : Bool) (at : ℕ) (g h : List ℕ → List ℕ) (ms : List ℕ) → ((m : List ℕ) → g m ≡ h m) → cond p (in_record at g ms) ms ≡ cond p (in_record at h ms) ms
unfolding in_record
same-record p at g h ms e = ap (λ (m : List ℕ). cond p (take at ms ++ (m ++ drop (at + 640) ms)) ms) (e (take 640 (drop at ms)))

module _ (b : Block) (w h : ℕ) (a l ms : List ℕ) where
  pub luma-near : (tm : List ℕ) → w ≡ bw4 b → h ≡ bh4 b → luma_masks b tm (take w a) (take h l) ms ≡ luma_masks b tm a l ms
  luma-near tm ew eh = rw (ew, eh) (same-record (sees_luma b) (record_at b) _ _ ms (go b.inter))
    where
      go : (i : Bool) (m : List ℕ) → folds.luma_masks (b.y.0 % 32) (b.x.0 % 32) (bw4 b) (bh4 b) i b.skip b.tx tm (take (bw4 b) a) (take (bh4 b) l) m
          ≡ folds.luma_masks (b.y.0 % 32) (b.x.0 % 32) (bw4 b) (bh4 b) i b.skip b.tx tm a l m
      go true m = cell-masks _ _ b.skip a l m (tables tm b.tx (bw4 b) (bh4 b))
      go false m = grid-masks _ _ false a l m luma_class b.tx

  pub chroma-near : w ≡ cbw4 b → h ≡ cbh4 b → chroma_masks b (take w a) (take h l) ms ≡ chroma_masks b a l ms
  chroma-near ew eh = rw (ew, eh) (same-record (sees_chroma b) (record_at b) _ _ ms (λ m. grid-masks _ _ b.skip a l m chroma_class b.uvtx))

-- ---- contexts

stores-put : (n : ℕ) (f : ℕ → ℕ) (c : List ℕ) → n ≤ length c → stores n f (take n c) ++ drop n c ≡ stores n f c
unfolding stores
stores-put n f c h = go n (le_refl n)
  where
    go : (m : ℕ) → m ≤ n → stores m f (take n c) ++ drop n c ≡ stores m f c
    go zero l = take-append-drop n c
    go (suc m) l =
        let e = up_to-holds (λ d. length d ≡ n) (λ v d. set d v (f v)) m (λ v _ d e. length-set d v (f v) ∙ e) (take n c) (length-take-le n c h) in
        sym (set-append_left (stores m f (take n c)) (drop n c) m (f m) (omega arith)) ∙ ap (λ (d : List ℕ). set d m (f m)) (go m (omega arith))

-- a context of which the first n places were lent, and stored where p
pub context-put : (p : Bool) (n m : ℕ) (f : ℕ → ℕ) (c : List ℕ) {d : List ℕ} → n ≡ m → m ≤ length c → d ≡ cond p (stores m f (take n c)) (take n c)
    → d ++ drop n c ≡ cond p (stores m f c) c
context-put true n m f c e h g = rw (g, e) (stores-put m f c h)
context-put false n m f c e h g = rw g (take-append-drop n c)
