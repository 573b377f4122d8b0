-- A block of a call that records, beside the standard's frame, in luma or in chroma; and their edges. A unit is (across, along) the pass.
--   ss_in luma b d              ss of the direction across the pass d
--   place_in luma b d           the block's first unit there
--   block_grid luma b           the plane's units
--   SeenIn luma b d p           p is one of the visible units
--   lent_context luma d m       the context lent along the pass
--   block_tx luma b tm x y      the transform of the block at a unit, counted from its corner
--   HoldsBlock                  the frame D has the call's block as C, a legal block, and LoopfilterTxSizes has its transforms
--   ContextTells                where the pass meets the block, the context holds the class of the transform before
--   standard_edge D plane d p   the standard's edge: its filter's length, by 7.14.3, if apply_filter holds
--   stands o                    there is an edge
--   width_in plane o            the width of an edge's class
--   greater o q                 of two edges the wider one
--   Stays G d p ms ms'          the bits of a unit's edge are the same in both
use Rattle.std.specs.Prelude.{Bool, true, false, cond, not, ◌&&◌, List, ◌≡◌, ℕ, ◌-◌, ◌<◌, max, eqb, get_or}
use Rattle.std.proofs.Math.Option.{Option, some, none}
use Rattle.bits.specs.Mark.{is_set}
use Rattle.plane.specs.Line.{Pass, columns, rows, Piece, pass_no, other}
use Rattle.plane.specs.Plane.{right, down}
use Rattle.standard.specs.Edge.{Frame, edge_size}
use Rattle.standard.specs.FilterSize.{filter_len}
use Rattle.units.specs.Units.{chroma_unit}
use Rattle.edges.specs.Edges.{Grid, luma_grid, chroma_grid, classes, edge_bit}
use Rattle.decomp.specs.Split.{tx_at}
use Rattle.block.specs.declared.Block.{Block}
use Rattle.block.specs.Block.{w4, h4, ss-hor, ss-ver, Lent}
use Rattle.record.specs.Recorded.{LumaSeen, ChromaSeen}
use Rattle.agree.specs.Legal.{Coded, Legal, Tells}
use Rattle.covering.specs.Standard.{transform_at, visited_row, visited_col, applies_at}
use Rattle.walk.specs.Walk.{width_of}

-- ---- the call's block

abbrev pub ss_in : Bool → Block → Pass → ℕ
ss_in true b d = 0
ss_in false b columns = ss-hor b
ss_in false b rows = ss-ver b

abbrev pub place_in : Bool → Block → Pass → ℕ
place_in luma b columns = chroma_unit (ss_in luma b columns) b.x.0
place_in luma b rows = chroma_unit (ss_in luma b rows) b.y.0

abbrev pub block_grid : Bool → Block → Grid
block_grid true b = luma_grid (w4 b) (h4 b)
block_grid false b = chroma_grid (ss-hor b) (ss-ver b) (w4 b) (h4 b)

abbrev pub SeenIn : Bool → Block → Pass → Piece → Type 0
SeenIn true b d p = LumaSeen b (right d p) (down d p)
SeenIn false b d p = ChromaSeen b (right d p) (down d p)

abbrev pub lent_context : Bool → Pass → Lent → List ℕ
lent_context true columns m = m.left
lent_context true rows m = m.above
lent_context false columns m = m.left-uv
lent_context false rows m = m.above-uv

abbrev pub block_tx : Bool → Block → List ℕ → ℕ → ℕ → ℕ
block_tx true b tm x y = cond b.inter (tx_at tm b.tx x y) b.tx
block_tx false b tm x y = b.uvtx

-- ---- the standard's

pub record HoldsBlock (D : Frame) (plane : ℕ) (C : Coded) (luma : Bool) (b : Block) (tm : List ℕ) : Type 0 where
  pub plane-is : eqb plane 0 ≡ luma
  pub right-ss : D.sx plane ≡ ss_in luma b columns
  pub down-ss : D.sy plane ≡ ss_in luma b rows
  pub row : C.MiRow ≡ b.y.0
  pub col : C.MiCol ≡ b.x.0
  pub size : C.MiSize ≡ b.size
  pub intra : C.is_intra ≡ not b.inter
  -- `record_intra` is not told of skip
  pub skip : b.skip ≡ (C.Skip && not C.is_intra)
  pub legal : Legal D plane C
  pub known : (p : Piece) → SeenIn luma b columns p
      → transform_at D plane columns p.1 p.0 ≡ block_tx luma b tm (p.0 - place_in luma b columns) (p.1 - place_in luma b rows)

abbrev pub ContextTells : Frame → ℕ → Bool → Block → Lent → Pass → Piece → Type 0
ContextTells D plane luma b m d p =
    p.0 ≡ place_in luma b d
    → Tells plane (pass_no d) (transform_at D plane d p.1 (p.0 - 1)) (get_or (lent_context luma d m) (p.1 - place_in luma b (other d)) 0)

module _ (D : Frame) (plane : ℕ) (d : Pass) (p : Piece) where
  abbrev pub standard_edge : Option ℕ
  standard_edge =
      cond (applies_at D plane d p.1 p.0)
      (some (filter_len plane (edge_size D plane (pass_no d) (visited_row D plane d p.1 p.0) (visited_col D plane d p.1 p.0))))
      none

-- ---- edges

abbrev pub stands : Option ℕ → Bool
stands none = false
stands (some c) = true

abbrev pub width_in : ℕ → Option ℕ → Option ℕ
width_in plane none = none
width_in plane (some c) = some (width_of plane c)

abbrev pub greater : Option ℕ → Option ℕ → Option ℕ
greater none q = q
greater (some a) none = some a
greater (some a) (some b) = some (max a b)

abbrev pub Stays : Grid → Pass → Piece → List ℕ → List ℕ → Type 0
Stays G d p ms ms' = (c : ℕ) → c < classes G → is_set ms' (edge_bit G d p c) ≡ is_set ms (edge_bit G d p c)
