-- An accepted block leaves its recording in the frame's buffers: mask_edges' promises in its record, whose hypotheses the number 0 gives, lifted to the frame.
use mathlib.Core.Bool.{Bool, true, false, cond, or_assoc}
use mathlib.Core.List.{List}
use mathlib.Core.Path.{◌≡◌, refl, ◌∙◌}
use Prim.Native.Nat.{ℕ, ◌+◌, ◌*◌, ◌%◌, ◌≤◌}
use native.Mathlib.Omega.{arith}
use lib.ListN.{length, take, drop}
use Rattle.bits.specs.Mark.{is_set}
use Rattle.units.specs.Frame.{record_of}
use Rattle.units.specs.Masks.{luma_bit}
use Rattle.units.proofs.Places.{ss-hor-le, ss-ver-le}
use Rattle.mask_edges.specs.Recording.{Room, Contexts, chroma_bits, intra_block, inter_block}
use Rattle.mask_edges.specs.Folds.{stores, above_of, left_of}
use Rattle.mask_edges.specs.Folds as folds
use Rattle.mask_edges.specs.Recording as recording
use Rattle.mask_edges.proofs.Theorems as mask-edges
use Rattle.mask_edges.proofs.Contexts.{length-stores}
use Rattle.block.specs.declared.Block.{Block}
use Rattle.block.specs.Block.{w4, ss-hor, ss-ver, bw4, bh4, cbw4, cbh4, sees_luma, sees_chroma, Lent, lent}
use Rattle.block.specs.Tests.{number}
use Rattle.record.specs.Record.{in_record, cbx4, cby4, luma_levels, chroma_levels, luma_masks, chroma_masks, luma_above, luma_left, chroma_above, chroma_left, Fitting}
use Rattle.record.specs.Recorded.{luma_block, chroma_block, in_frame, luma_edge, chroma_edge, Masks, Stored}
use Rattle.record.proofs.Rooms.{luma-seen, luma-fits, luma-record, luma-covers, chroma-seen, chroma-tx, chroma-place, chroma-record-in}
use Rattle.record.proofs.SoundBlocks.{fitting, levels-long, masks-long, luma-long, chroma-long}
use Rattle.record.proofs.Frames.{part-long, Added, added}
use Rattle.record.proofs.Fills.{block-levels}

stores-long : (seen : Bool) (n : ℕ) (f : ℕ → ℕ) (c : List ℕ) → length (cond seen (stores n f c) c) ≡ length c
stores-long false n f c = refl
stores-long true n f c = length-stores f c n

module _ (b : Block) (level-stride : ℕ) (m : Lent) (ok : number b level-stride m ≡ 0) where
  s : Fitting b
  s = fitting b level-stride m ok

  abbrev at : ℕ
  at = record_of (w4 b) b.x.0 b.y.0

  abbrev part_of : List ℕ → List ℕ
  part_of ms = take 640 (drop (640 * at) ms)

  -- ---- luma

  module _ (e : sees_luma b ≡ true) where
    luma-in : 640 * at + 640 ≤ length m.masks
    luma-in = omega (arith, luma-record b s e, masks-long b level-stride m ok)

    luma-room : Room (b.y.0 % 32) (b.x.0 % 32) (bw4 b) (bh4 b) 0 0 (length (part_of m.masks)) (length m.above) (length m.left)
    luma-room =
        record {
          width = ((luma-seen b s e).0, (luma-fits b s e).0);
          height = ((luma-seen b s e).1, (luma-fits b s e).1);
          record-words = omega (arith, part-long at (λ l. l) m.masks luma-in);
          above-units = (luma-long b level-stride m ok e).0;
          left-units = (luma-long b level-stride m ok e).1;
        }

  module _ (tm : List ℕ) where
    abbrev inter : recording.Block
    inter = inter_block (b.y.0 % 32) (b.x.0 % 32) (bw4 b) (bh4 b) b.skip b.tx tm m.above m.left

    abbrev intra : recording.Block
    intra = intra_block (b.y.0 % 32) (b.x.0 % 32) (bw4 b) (bh4 b) b.tx m.above m.left

    luma-added : Added true (luma_block b tm m) (in_frame b luma_bit) m.masks (luma_masks b tm m.above m.left m.masks)
    luma-added = go b.inter refl
      where
        go : (i : Bool) → b.inter ≡ i
            → Added true (cond i inter intra) (in_frame b luma_bit) m.masks
            (cond (sees_luma b) (in_record (640 * at) (folds.luma_masks (b.y.0 % 32) (b.x.0 % 32) (bw4 b) (bh4 b) i b.skip b.tx tm m.above m.left) m.masks)
            m.masks)
        go true i =
            added inter luma_bit at _ m.masks true
            (λ e. (luma-in e, ((mask-edges.promises).inter _ _ _ _ b.skip b.tx tm m.above m.left _ (luma-room e) (luma-covers b s e i)).0))
        go false i =
            added intra luma_bit at _ m.masks true
            (λ e. (luma-in e, ((mask-edges.promises).intra _ _ _ _ b.tx m.above m.left _ (luma-room e) s.tx).0))

    luma-contexts : sees_luma b ≡ true → Contexts (luma_block b tm m) (luma_above b tm m.above) (luma_left b tm m.left)
    luma-contexts e = rw e (go b.inter refl)
      where
        go : (i : Bool) → b.inter ≡ i
            → Contexts (cond i inter intra) (stores (bw4 b) (above_of i tm b.tx (bw4 b) (bh4 b)) m.above) (stores (bh4 b) (left_of i tm b.tx (bw4 b) (bh4 b)) m.left)
        go true i = ((mask-edges.promises).inter _ _ _ _ b.skip b.tx tm m.above m.left (part_of m.masks) (luma-room e) (luma-covers b s e i)).1
        go false i = ((mask-edges.promises).intra _ _ _ _ b.tx m.above m.left (part_of m.masks) (luma-room e) s.tx).1

  -- ---- chroma

  module _ (ms : List ℕ) (same : length ms ≡ length m.masks) where
    module _ (e : sees_chroma b ≡ true) where
      chroma-in : 640 * at + 640 ≤ length ms
      chroma-in = omega (arith, chroma-record-in b s e, masks-long b level-stride m ok)

      chroma-room : Room (cby4 b) (cbx4 b) (cbw4 b) (cbh4 b) (ss-hor b) (ss-ver b) (length (part_of ms)) (length m.above-uv) (length m.left-uv)
      chroma-room =
          record {
            width = ((chroma-seen b s e).0, (chroma-place b s e).0);
            height = ((chroma-seen b s e).1, (chroma-place b s e).1);
            record-words = omega (arith, part-long at (λ l. l) ms chroma-in);
            above-units = (chroma-long b level-stride m ok e).0;
            left-units = (chroma-long b level-stride m ok e).1;
          }

    chroma-added : Added b.chroma (chroma_block b m) (in_frame b (chroma_bits (ss-hor b) (ss-ver b))) ms (chroma_masks b m.above-uv m.left-uv ms)
    chroma-added =
        added (chroma_block b m) (chroma_bits (ss-hor b) (ss-ver b)) at _ ms b.chroma
        (λ e. (
          chroma-in e,
          ((mask-edges.promises).chroma _ _ _ _ b.skip b.uvtx (ss-hor b) (ss-ver b) m.above-uv m.left-uv _ (chroma-room e) (chroma-tx b s e)
              (ss-hor-le b.layout) (ss-ver-le b.layout)).0,
        ))

  chroma-contexts : sees_chroma b ≡ true → Contexts (chroma_block b m) (chroma_above b m.above-uv) (chroma_left b m.left-uv)
  chroma-contexts e =
      rw e ((mask-edges.promises).chroma _ _ _ _ b.skip b.uvtx (ss-hor b) (ss-ver b) m.above-uv m.left-uv (part_of m.masks) (chroma-room m.masks refl e)
      (chroma-tx b s e) (ss-hor-le b.layout) (ss-ver-le b.layout)).1

  -- ---- all

  module _ (values tm : List ℕ) where
    abbrev pub after : Lent
    after =
        lent (chroma_levels b level-stride values (luma_levels b level-stride values m.levels))
        (chroma_masks b m.above-uv m.left-uv (luma_masks b tm m.above m.left m.masks))
        (luma_above b tm m.above)
        (luma_left b tm m.left)
        (chroma_above b m.above-uv)
        (chroma_left b m.left-uv)

    masks : Masks b tm m after.masks
    masks =
        let L = luma-added tm in
        let C = chroma-added (luma_masks b tm m.above m.left m.masks) L.long in
        record { long = C.long ∙ L.long; bits = λ e. C.bits e ∙ rw (L.bits e) (or_assoc (is_set m.masks e) (luma_edge b tm m e) (chroma_edge b m e)) }

    pub stored : Stored b level-stride values tm m after
    stored =
        record {
          levels = block-levels b s level-stride values m.levels (levels-long b level-stride m ok).0 (levels-long b level-stride m ok).1;
          masks = masks;
          luma = luma-contexts tm;
          luma-stay = λ e. rw e (refl, refl);
          chroma = chroma-contexts;
          chroma-stay = λ e. rw e (refl, refl);
          above-long = stores-long (sees_luma b) _ _ m.above;
          left-long = stores-long (sees_luma b) _ _ m.left;
          above-uv-long = stores-long (sees_chroma b) _ _ m.above-uv;
          left-uv-long = stores-long (sees_chroma b) _ _ m.left-uv;
        }
