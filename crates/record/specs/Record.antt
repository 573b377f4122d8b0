-- What recording a block stores, in the order of the code, and the contract of `record_intra` and `record_inter`.
--   intra_of, inter_of               the block of a call's arguments
--   value_of b values area          the level value of the block's area: 0 luma columns, 1 luma rows, 2 U, 3 V
--   fill_row, fill_levels            two bytes of each of w units, h times: u, and v after it
--   record_at b, in_record a g       where the block's record of masks stands; the masks with g made of the 640 words at a
--   cbx4, cby4                     the chroma place of the block in its record
--   luma_levels, chroma_levels       the level bytes, in a plane in which units are recorded
--   luma_masks, chroma_masks         the masks
--   luma_above, luma_left, chroma_above, chroma_left   the contexts
--   RecordAnswer                   number and memory after a call; tm are the tx_masks of an inter block
--   Fitting b, Sound b             what the work behind the number asks of a block, for its masks, and for its levels too
use Rattle.std.specs.Prelude.{true, false, cond, List, ◌++◌, ◌⊎◌, ◌≡◌, ℕ, ◌+◌, ◌*◌, ◌%◌, ◌<◌, ◌≤◌, eqb, get_or, set, take, drop}
use mir.Val.{bool_byte}
use Rattle.loops.specs.Run.{up_to}
use Rattle.loops.specs.Flag.{on}
use Rattle.standard.specs.Sizes.{Tx_Wide, Tx_High, Max_Tx_Size_Rect}
use Rattle.units.specs.Units.{chroma_unit}
use Rattle.units.specs.Frame.{record_of}
use Rattle.units.specs.Memory.{level_at}
use Rattle.units.specs.Sizes.{chroma_class}
use Rattle.mask_edges.specs.Folds.{stores, above_of, left_of}
use Rattle.mask_edges.specs.Folds as folds
use Rattle.block.specs.declared.Block.{Block}
use Rattle.block.specs.Block.{w4, h4, block_width, block_height, ss-hor, ss-ver, bw4, bh4, cbw4, cbh4, sees_luma, sees_chroma, Lent, Sides}
use Rattle.block.specs.Tests.{number}

abbrev pub intra_of : ℕ → ℕ → ℕ → ℕ → ℕ → ℕ → ℕ → ℕ → ℕ → Block
intra_of width height layout x y size tx chroma uvtx =
    record {
      width = record { 0 = width };
      height = record { 0 = height };
      layout = layout;
      x = record { 0 = x };
      y = record { 0 = y };
      size = size;
      tx = tx;
      chroma = on chroma;
      uvtx = uvtx;
      inter = false;
      skip = false;
      reference = 0;
      mode = 0;
    }

abbrev pub inter_of : ℕ → ℕ → ℕ → ℕ → ℕ → ℕ → ℕ → ℕ → ℕ → ℕ → ℕ → ℕ → Block
inter_of width height layout x y size tx chroma uvtx skip reference mode =
    record {
      width = record { 0 = width };
      height = record { 0 = height };
      layout = layout;
      x = record { 0 = x };
      y = record { 0 = y };
      size = size;
      tx = tx;
      chroma = on chroma;
      uvtx = uvtx;
      inter = true;
      skip = on skip;
      reference = reference;
      mode = bool_byte (on mode);
    }

abbrev pub value_of : Block → List ℕ → ℕ → ℕ
value_of b values area = get_or values ((area * 8 + b.reference) * 2 + b.mode) 0

unfoldable pub fill_row : ℕ → ℕ → ℕ → ℕ → List ℕ → List ℕ
fill_row at w u v = up_to (λ i l. set (set l (at + 4 * i) u) (at + 4 * i + 1) v) w

unfoldable pub fill_levels : ℕ → ℕ → ℕ → ℕ → ℕ → ℕ → List ℕ → List ℕ
fill_levels at level-stride w h u v = up_to (λ j. fill_row (at + 4 * (j * level-stride)) w u v) h

abbrev pub record_at : Block → ℕ
record_at b = 640 * record_of (w4 b) b.x.0 b.y.0

unfoldable pub in_record : ℕ → (List ℕ → List ℕ) → List ℕ → List ℕ
in_record a g ms = take a ms ++ (g (take 640 (drop a ms)) ++ drop (a + 640) ms)

abbrev pub cbx4 : Block → ℕ
cbx4 b = chroma_unit (ss-hor b) (b.x.0 % 32)

abbrev pub cby4 : Block → ℕ
cby4 b = chroma_unit (ss-ver b) (b.y.0 % 32)

-- ---- levels

abbrev pub luma_levels : Block → ℕ → List ℕ → List ℕ → List ℕ
luma_levels b level-stride values ls =
    cond (sees_luma b) (fill_levels (level_at level-stride b.x.0 b.y.0 0) level-stride (bw4 b) (bh4 b) (value_of b values 0) (value_of b values 1) ls) ls

abbrev pub chroma_levels : Block → ℕ → List ℕ → List ℕ → List ℕ
chroma_levels b level-stride values ls =
    cond (sees_chroma b)
    (fill_levels (level_at level-stride (chroma_unit (ss-hor b) b.x.0) (chroma_unit (ss-ver b) b.y.0) 2) level-stride (cbw4 b) (cbh4 b)
    (value_of b values 2) (value_of b values 3) ls)
    ls

-- ---- masks

abbrev pub luma_masks : Block → List ℕ → List ℕ → List ℕ → List ℕ → List ℕ
luma_masks b tm a l ms =
    cond (sees_luma b)
    (in_record (record_at b) (folds.luma_masks (b.y.0 % 32) (b.x.0 % 32) (bw4 b) (bh4 b) b.inter b.skip b.tx tm a l) ms)
    ms

abbrev pub chroma_masks : Block → List ℕ → List ℕ → List ℕ → List ℕ
chroma_masks b a l ms =
    cond (sees_chroma b)
    (in_record (record_at b) (folds.chroma_masks (cby4 b) (cbx4 b) (cbw4 b) (cbh4 b) b.skip b.uvtx (ss-hor b) (ss-ver b) a l) ms)
    ms

-- ---- contexts

abbrev pub luma_above : Block → List ℕ → List ℕ → List ℕ
luma_above b tm a = cond (sees_luma b) (stores (bw4 b) (above_of b.inter tm b.tx (bw4 b) (bh4 b)) a) a

abbrev pub luma_left : Block → List ℕ → List ℕ → List ℕ
luma_left b tm l = cond (sees_luma b) (stores (bh4 b) (left_of b.inter tm b.tx (bw4 b) (bh4 b)) l) l

abbrev pub chroma_above : Block → List ℕ → List ℕ
chroma_above b a = cond (sees_chroma b) (stores (cbw4 b) (λ _. chroma_class (Tx_High b.uvtx)) a) a

abbrev pub chroma_left : Block → List ℕ → List ℕ
chroma_left b l = cond (sees_chroma b) (stores (cbh4 b) (λ _. chroma_class (Tx_Wide b.uvtx)) l) l

-- ---- the contract

pub record RecordAnswer (b : Block) (level-stride : ℕ) (values tm : List ℕ) (r : ℕ) (before after : Lent) : Type 0 where
  pub code : r ≡ number b level-stride before
  pub levels : after.levels ≡ cond (eqb r 0) (chroma_levels b level-stride values (luma_levels b level-stride values before.levels)) before.levels
  pub masks : after.masks
      ≡ cond (eqb r 0) (chroma_masks b before.above-uv before.left-uv (luma_masks b tm before.above before.left before.masks)) before.masks
  pub above : after.above ≡ cond (eqb r 0) (luma_above b tm before.above) before.above
  pub left : after.left ≡ cond (eqb r 0) (luma_left b tm before.left) before.left
  pub above-uv : after.above-uv ≡ cond (eqb r 0) (chroma_above b before.above-uv) before.above-uv
  pub left-uv : after.left-uv ≡ cond (eqb r 0) (chroma_left b before.left-uv) before.left-uv

pub record Fitting (b : Block) : Type 0 where
  pub sides : Sides b
  pub tx : b.tx < 19
  pub uvtx : b.chroma ≡ true → b.uvtx < 19
  pub x-on : b.x.0 % block_width b ≡ 0
  pub y-on : b.y.0 % block_height b ≡ 0
  pub x-in : b.x.0 ≤ w4 b
  pub y-in : b.y.0 ≤ h4 b
  pub largest : b.inter ≡ true → (b.tx ≡ Max_Tx_Size_Rect b.size) ⊎ (b.tx ≡ 0)

pub record Sound (b : Block) : Type 0 where
  pub fits : Fitting b
  pub reference : b.reference < 8
  pub mode : b.mode < 2
