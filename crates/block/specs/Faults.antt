-- What the numbers 4 to 7 refuse, in document 01's words.
--   Multiple u n                 the place u is a multiple of n
--   ShapeFault                   4
--   CodeFault, PlaceFault, TxFault, LargestFault, ReferenceFault   the five of 5, and BlockFault, any of them
--   ContextFault                 of one context: n units are recorded along it, `most` is its range
--   ContextsFault                6
--   LengthFault                  7
use Rattle.std.specs.Prelude.{true, List, ◌≡◌, ℕ, ◌*◌, ◌<◌, ◌≤◌, length, get_or}
use Rattle.standard.specs.Sizes.{Tx_Wide, Tx_High, Max_Tx_Size_Rect}
use Rattle.units.specs.Units.{chroma_units}
use Rattle.units.specs.Layout.{Layout}
use Rattle.units.specs.Frame.{frame_records}
use Rattle.block.specs.declared.Block.{Block}
use Rattle.block.specs.Block.{w4, h4, block_width, block_height, ss-hor, ss-ver, bw4, bh4, cbw4, cbh4, Lent}

abbrev pub Multiple : ℕ → ℕ → Type 0
Multiple u n = (k : ℕ) × (u ≡ k * n)

pub data ShapeFault (b : Block) : Type 0 where
  layout-other : ¬ Layout b.layout → ShapeFault b
  size-outside : ¬ (((1 ≤ b.width.0) × (b.width.0 ≤ 16384)) × ((1 ≤ b.height.0) × (b.height.0 ≤ 16384))) → ShapeFault b
  pair-at-400 : b.chroma ≡ true → b.layout ≡ 400 → ShapeFault b

pub data CodeFault (b : Block) : Type 0 where
  size_above : 21 < b.size → CodeFault b
  tx-above : 18 < b.tx → CodeFault b
  uvtx-above : b.chroma ≡ true → 18 < b.uvtx → CodeFault b

pub data PlaceFault (b : Block) : Type 0 where
  x-between : ¬ Multiple b.x.0 (block_width b) → PlaceFault b
  y-between : ¬ Multiple b.y.0 (block_height b) → PlaceFault b
  x-past : w4 b < b.x.0 → PlaceFault b
  y-past : h4 b < b.y.0 → PlaceFault b

pub data TxFault (b : Block) : Type 0 where
  wider : block_width b < Tx_Wide b.tx → TxFault b
  higher : block_height b < Tx_High b.tx → TxFault b
  uv-wider : b.chroma ≡ true → chroma_units (ss-hor b) (block_width b) < Tx_Wide b.uvtx → TxFault b
  uv-higher : b.chroma ≡ true → chroma_units (ss-ver b) (block_height b) < Tx_High b.uvtx → TxFault b

pub data LargestFault (b : Block) : Type 0 where
  neither : b.inter ≡ true → ¬ (b.tx ≡ Max_Tx_Size_Rect b.size) → ¬ (b.tx ≡ 0) → LargestFault b

pub data ReferenceFault (b : Block) : Type 0 where
  reference-above : b.inter ≡ true → 7 < b.reference → ReferenceFault b

pub data BlockFault (b : Block) : Type 0 where
  code : CodeFault b → BlockFault b
  place : PlaceFault b → BlockFault b
  tx : TxFault b → BlockFault b
  largest : LargestFault b → BlockFault b
  reference : ReferenceFault b → BlockFault b

pub data ContextFault (n most : ℕ) (c : List ℕ) : Type 0 where
  fewer : length c < n → ContextFault n most c
  above-range : (i : ℕ) → i < n → most < get_or c i 0 → ContextFault n most c

pub data ContextsFault (b : Block) (m : Lent) : Type 0 where
  above : (0 < bw4 b) × (0 < bh4 b) → ContextFault (bw4 b) 2 m.above → ContextsFault b m
  left : (0 < bw4 b) × (0 < bh4 b) → ContextFault (bh4 b) 2 m.left → ContextsFault b m
  above-uv : b.chroma ≡ true → (0 < cbw4 b) × (0 < cbh4 b) → ContextFault (cbw4 b) 1 m.above-uv → ContextsFault b m
  left-uv : b.chroma ≡ true → (0 < cbw4 b) × (0 < cbh4 b) → ContextFault (cbh4 b) 1 m.left-uv → ContextsFault b m

pub data LengthFault (b : Block) (level-stride : ℕ) (m : Lent) : Type 0 where
  stride-below : level-stride < w4 b → LengthFault b level-stride m
  levels-short : length m.levels < 4 * level-stride * h4 b → LengthFault b level-stride m
  masks-short : length m.masks < 640 * frame_records (w4 b) (h4 b) → LengthFault b level-stride m
