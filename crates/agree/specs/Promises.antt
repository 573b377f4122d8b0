-- What a legal block records is what the standard filters.
--   start plane           what a context holds at a tile's start: the highest class
--   Agrees                of one unit and pass: it has an edge exactly where apply_filter holds, and the edge's class is the standard's filter
--   bits_of, classes      the bits of a plane's edges, and how many classes it has
--   Marks                 of one unit and pass: recording adds the bit of its edge exactly where apply_filter holds
--   Promises
use Rattle.std.specs.Prelude.{◌≡◌, true, false, cond, not, ◌&&◌, ◌||◌, List, ℕ, ◌+◌, ◌-◌, ◌*◌, ◌≤◌, ◌<◌, min, eqb}
use Rattle.bits.specs.Mark.{is_set}
use Rattle.standard.specs.Edge.{Frame, on_screen, apply_filter, edge_size}
use Rattle.standard.specs.FilterSize.{filter_size, filter_len}
use Rattle.units.specs.Masks.{half_units, luma_bit}
use Rattle.units.specs.Sizes.{Side}
use Rattle.walk.specs.Walk.{width_of}
use Rattle.decomp.specs.Split.{tx_at}
use Rattle.mask_edges.specs.Recording.{Block, Sweep, columns, rows, is_edge, class_at, context_after, Recorded, chroma_bits, intra_block, inter_block, chroma_block}
use Rattle.agree.specs.Legal.{Coded, left, top, row_at, col_at, Legal, class_of, Shows, Tells, Sized}

abbrev pub start : ℕ → ℕ
start plane = cond (eqb plane 0) 2 1

-- the unit (u, v) of the sweep S, which 7.14.1 visits at (row, col); `before` is the transform next to the block, whose class the context holds.
-- At a tile's start it does not, but the tile correction takes the least of what is recorded and the class k that was kept
pub record Agrees (D : Frame) (plane pass row col : ℕ) (S : Sweep) (u v before : ℕ) : Type 0 where
  pub edge : is_edge S u v ≡ apply_filter D plane pass row col
  pub width : (u ≡ 0 → Tells plane pass before (S.context v)) → width_of plane (class_at S u v) ≡ filter_len plane (edge_size D plane pass row col)
  pub corrected : u ≡ 0 → S.context v ≡ start plane → (k : ℕ) → Tells plane pass before k
      → width_of plane (min (class_at S u v) k) ≡ filter_len plane (edge_size D plane pass row col)

abbrev pub bits_of : Frame → ℕ → ℕ → ℕ → ℕ → ℕ → ℕ
bits_of D plane = cond (eqb plane 0) luma_bit (chroma_bits (D.sx plane) (D.sy plane))

abbrev pub classes : ℕ → ℕ
classes plane = cond (eqb plane 0) 3 2

pub record Marks (D : Frame) (plane pass row col : ℕ) (S : Sweep) (u v : ℕ) (before after : List ℕ) : Type 0 where
  pub bit : (k : ℕ) → k < classes plane
      → is_set after (bits_of D plane pass (S.unit + u) k (S.place + v))
      ≡ (is_set before (bits_of D plane pass (S.unit + u) k (S.place + v)) || (apply_filter D plane pass row col && eqb (class_at S u v) k))

pub record Promises : Type 0 where
  -- 7.14.3: the least of two classes is the filter of the two sides, in units
  pub sides : (plane n m : ℕ) → Side n 16 → Side m 16
      → width_of plane (min (class_of plane n) (class_of plane m)) ≡ filter_len plane (filter_size plane (4 * n) (4 * m))
  -- 7.14.2
  pub agrees : (D : Frame) (plane : ℕ) (C : Coded) (B : Block) → Legal D plane C → Shows D plane C B → (x y : ℕ) → x < B.w4 → y < B.h4
      → Agrees D plane 0 (row_at D plane C y) (col_at D plane C x) (columns B) x y (D.TxSizes plane (top D plane C + y) (left D plane C - 1))
      × Agrees D plane 1 (row_at D plane C y) (col_at D plane C x) (rows B) y x (D.TxSizes plane (top D plane C - 1) (left D plane C + x))
  -- in the masks
  pub marks : (D : Frame) (plane : ℕ) (C : Coded) (B : Block) → Legal D plane C → Shows D plane C B → B.bx4 + B.w4 ≤ 2 * half_units (D.sx plane)
      → B.by4 + B.h4 ≤ 2 * half_units (D.sy plane) → (before after : List ℕ) → Recorded B (bits_of D plane) before after
      → (x y : ℕ) → x < B.w4 → y < B.h4
      → Marks D plane 0 (row_at D plane C y) (col_at D plane C x) (columns B) x y before after
      × Marks D plane 1 (row_at D plane C y) (col_at D plane C x) (rows B) y x before after
  -- at the frame's own border, where nothing lies before the block, the standard filters nothing
  pub border : (D : Frame) (plane : ℕ) (C : Coded) (x y : ℕ)
      → (left D plane C + x ≡ 0 → on_screen D plane 0 (row_at D plane C y) (col_at D plane C x) ≡ false)
      × (top D plane C + y ≡ 0 → on_screen D plane 1 (row_at D plane C y) (col_at D plane C x) ≡ false)
  -- the contexts after a block hold what the blocks next to it ask for, and beyond it stay
  pub left_after : (D : Frame) (plane : ℕ) (C : Coded) (B : Block) → Shows D plane C B → (y : ℕ)
      → (y < B.h4 → Tells plane 0 (D.TxSizes plane (top D plane C + y) (left D plane C + B.w4 - 1)) (context_after (columns B) y))
      × (B.h4 ≤ y → context_after (columns B) y ≡ B.left y)
  pub above-after : (D : Frame) (plane : ℕ) (C : Coded) (B : Block) → Shows D plane C B → (x : ℕ)
      → (x < B.w4 → Tells plane 1 (D.TxSizes plane (top D plane C + B.h4 - 1) (left D plane C + x)) (context_after (rows B) x))
      × (B.w4 ≤ x → context_after (rows B) x ≡ B.above x)
  -- the blocks that the three recorders take: intra, inter, and of either a chroma pair
  pub intra : (D : Frame) (C : Coded) (by4 bx4 w4 h4 t : ℕ) (a l : List ℕ) → Sized D 0 C w4 h4 t (λ _ _. t) → C.is_intra ≡ true
      → Shows D 0 C (intra_block by4 bx4 w4 h4 t a l)
  pub inter : (D : Frame) (C : Coded) (by4 bx4 w4 h4 t : ℕ) (tx-masks a l : List ℕ) → Sized D 0 C w4 h4 t (tx_at tx-masks t) → C.is_intra ≡ false
      → Shows D 0 C (inter_block by4 bx4 w4 h4 C.Skip t tx-masks a l)
  pub chroma : (D : Frame) (plane : ℕ) (C : Coded) (by4 bx4 w4 h4 t : ℕ) (a l : List ℕ) → 0 < plane → Sized D plane C w4 h4 t (λ _ _. t)
      → Shows D plane C (chroma_block by4 bx4 w4 h4 (C.Skip && not C.is_intra) t a l)
