-- What an accepted block leaves in the frame's buffers, document 01, "Units and lent memory" and "Recording", in whatever order it is done.
--   LumaSeen, ChromaSeen       (x, y) is a unit of the visible block in its plane; of chroma only where the pair is given
--   Seen                       in the plane of the level byte `area`
--   Levels                     the value of each area at each visible unit, and every other byte as before
--   luma_block, chroma_block   the block in its record of masks
--   in_frame                   the bit of an edge in the frame's masks, records being of 640 words of 16 bits
--   edge_of                    e is the bit of an edge of a block, in either pass
--   luma_edge, chroma_edge     of the recorded block, in the frame's masks; a plane with no visible unit has none
--   Masks                      the bits of the block's edges are set, and no other changes
--   Stored                     all that is stored
use Rattle.std.specs.Prelude.{Bool, true, false, cond, ◌&&◌, ◌||◌, List, ◌≡◌, ℕ, ◌+◌, ◌*◌, ◌%◌, ◌<◌, ◌≤◌, length, get_or}
use Rattle.bits.specs.Mark.{is_set}
use Rattle.units.specs.Units.{chroma_unit}
use Rattle.units.specs.Frame.{record_of}
use Rattle.units.specs.Masks.{luma_bit}
use Rattle.units.specs.Memory.{level_at}
use Rattle.mask_edges.specs.Recording.{columns, rows, edges, Contexts, chroma_bits, intra_block, inter_block}
use Rattle.mask_edges.specs.Recording as recording
use Rattle.block.specs.declared.Block.{Block}
use Rattle.block.specs.Block.{w4, ss-hor, ss-ver, bw4, bh4, cbw4, cbh4, sees_luma, sees_chroma, Lent}
use Rattle.record.specs.Record.{value_of, cbx4, cby4}

-- ---- levels

pub record LumaSeen (b : Block) (x y : ℕ) : Type 0 where
  pub across : (b.x.0 ≤ x) × (x < b.x.0 + bw4 b)
  pub down : (b.y.0 ≤ y) × (y < b.y.0 + bh4 b)

pub record ChromaSeen (b : Block) (x y : ℕ) : Type 0 where
  pub given : b.chroma ≡ true
  pub across : (chroma_unit (ss-hor b) b.x.0 ≤ x) × (x < chroma_unit (ss-hor b) b.x.0 + cbw4 b)
  pub down : (chroma_unit (ss-ver b) b.y.0 ≤ y) × (y < chroma_unit (ss-ver b) b.y.0 + cbh4 b)

pub data Seen (b : Block) (x y area : ℕ) : Type 0 where
  luma : area < 2 → LumaSeen b x y → Seen b x y area
  chroma : (2 ≤ area) × (area < 4) → ChromaSeen b x y → Seen b x y area

pub record Levels (b : Block) (level-stride : ℕ) (values before after : List ℕ) : Type 0 where
  pub long : length after ≡ length before
  pub stored : (x y area : ℕ) → Seen b x y area → get_or after (level_at level-stride x y area) 0 ≡ value_of b values area
  pub kept : (j : ℕ) → ((x y area : ℕ) → Seen b x y area → ¬ (j ≡ level_at level-stride x y area)) → get_or after j 0 ≡ get_or before j 0

-- ---- masks

abbrev pub luma_block : Block → List ℕ → Lent → recording.Block
luma_block b tm m =
    cond b.inter
    (inter_block (b.y.0 % 32) (b.x.0 % 32) (bw4 b) (bh4 b) b.skip b.tx tm m.above m.left)
    (intra_block (b.y.0 % 32) (b.x.0 % 32) (bw4 b) (bh4 b) b.tx m.above m.left)

abbrev pub chroma_block : Block → Lent → recording.Block
chroma_block b m = recording.chroma_block (cby4 b) (cbx4 b) (cbw4 b) (cbh4 b) b.skip b.uvtx m.above-uv m.left-uv

abbrev pub in_frame : Block → (ℕ → ℕ → ℕ → ℕ → ℕ) → ℕ → ℕ → ℕ → ℕ → ℕ
in_frame b bit pass unit class place = 10240 * record_of (w4 b) b.x.0 b.y.0 + bit pass unit class place

abbrev pub edge_of : recording.Block → (ℕ → ℕ → ℕ → ℕ → ℕ) → ℕ → Bool
edge_of B bit e = edges (columns B) (bit 0) e || edges (rows B) (bit 1) e

abbrev pub luma_edge : Block → List ℕ → Lent → ℕ → Bool
luma_edge b tm m = edge_of (luma_block b tm m) (in_frame b luma_bit)

abbrev pub chroma_edge : Block → Lent → ℕ → Bool
chroma_edge b m e = b.chroma && edge_of (chroma_block b m) (in_frame b (chroma_bits (ss-hor b) (ss-ver b))) e

pub record Masks (b : Block) (tm : List ℕ) (before : Lent) (after : List ℕ) : Type 0 where
  pub long : length after ≡ length before.masks
  pub bits : (e : ℕ) → is_set after e ≡ (is_set before.masks e || (luma_edge b tm before e || chroma_edge b before e))

-- ---- all

pub record Stored (b : Block) (level-stride : ℕ) (values tm : List ℕ) (before after : Lent) : Type 0 where
  pub levels : Levels b level-stride values before.levels after.levels
  pub masks : Masks b tm before after.masks
  -- the contexts of a plane in which units are recorded; else they stay
  pub luma : sees_luma b ≡ true → Contexts (luma_block b tm before) after.above after.left
  pub luma-stay : sees_luma b ≡ false → (after.above ≡ before.above) × (after.left ≡ before.left)
  pub chroma : sees_chroma b ≡ true → Contexts (chroma_block b before) after.above-uv after.left-uv
  pub chroma-stay : sees_chroma b ≡ false → (after.above-uv ≡ before.above-uv) × (after.left-uv ≡ before.left-uv)
  pub above-long : length after.above ≡ length before.above
  pub left-long : length after.left ≡ length before.left
  pub above-uv-long : length after.above-uv ≡ length before.above-uv
  pub left-uv-long : length after.left-uv ≡ length before.left-uv
