-- What the code does, in its own order. `bit u class v` is the bit of the block's edge at (u, v), u counted across the pass, v along it.
--   classes luma            how many classes there are
--   edge_bit                 the bit of an edge of luma or chroma; `half` units to a half of a mask
--   bit_in p                 of the block that the pass p goes over
--   block_edge               the block's own edge: the class is the least of a transform's and the context's
--   step_edges               inner edges at k steps of one transform's side, each of one class
--   walk, line_edges         inner edges along one line, from transform to transform, and along n of them; f bounds the steps
--   stores n f              the first n places of a context are f
--   Edged                   the contexts c and the masks ms with the block's own edge recorded for v units, all of one class
--   grid_pass, cell_pass      one pass: over a block of one transform, and over one whose cells tell its transforms
--   pass_over                a pass over a block; columns_of, rows_of: the two, by its place and size
--   grid_masks, cell_masks    both, the contexts a above and l left
--   Reach step x            x is reached from 0 by one step or more
--   cell_at d what u v       the cell of the tables a of transforms that tells the class (what 0) or the step (1) at (u, v); class_in a p, step_in a p
--   zeros                   4096 cells of 0
--   tables ms t w4 h4       the tables of an inter block, from those
--   whole_by                 a test that no transform is split, of w4 by h4 units of transforms of w by h: of an inter block by the first mask m
--   one_masks, intra_masks, inter_masks, luma_masks, chroma_masks   the masks that the recorders leave
--   last_row, last_column     the classes of an inter block's last row and column; above_of, left_of: those that the contexts take of a luma block
--   Held p len, Told        what the helpers ask: the block lies in the record; the cells hold classes, and steps that go on
use Rattle.std.specs.Prelude.{◌≡◌, Bool, true, false, cond, not, ◌&&◌, ◌||◌, List, ℕ, zero, suc, ◌+◌, ◌-◌, ◌*◌, ◌/◌, ◌%◌, ◌≤◌, ◌<◌, min, eqb, leb, ltb, length, get_or, set, replicate}
use Rattle.loops.specs.Run.{up_to}
use Rattle.plane.specs.Line.{Pass, columns, rows, pass_of}
use Rattle.bits.specs.Bit.{has_bit}
use Rattle.bits.specs.Mark.{mark, marks}
use Rattle.standard.specs.Sizes.{Tx_Wide, Tx_High}
use Rattle.units.specs.Masks.{half_units, word_of}
use Rattle.units.specs.Sizes.{luma_class, chroma_class}
use Rattle.decomp.specs.Cells.{cell}
use Rattle.decomp.specs.Folds.{block}
use Rattle.mask_edges.specs.declared.edge.BlockPass.{BlockPass}

abbrev pub classes : Bool → ℕ
classes luma = cond luma 3 2

unfoldable pub edge_bit : Bool → ℕ → Pass → ℕ → ℕ → ℕ → ℕ
edge_bit luma half d unit class place = 16 * word_of luma d unit class (place / half) + place % half

abbrev pub bit_in : BlockPass → ℕ → ℕ → ℕ → ℕ
bit_in p u class v = edge_bit p.luma p.half (pass_of p.rowwise) (p.unit + u) class (p.place + v)

module _ (bit : ℕ → ℕ → ℕ → ℕ) where
  unfoldable pub block_edge : ℕ → (ℕ → ℕ) → (ℕ → ℕ) → List ℕ → List ℕ
  block_edge n class context = marks n (λ v. bit 0 (min (class v) (context v)) v)

  unfoldable pub step_edges : ℕ → ℕ → ℕ → ℕ → List ℕ → List ℕ
  step_edges n step class k = up_to (λ i. marks n (bit ((i + 1) * step) class)) k

  unfoldable pub walk : ℕ → (ℕ → ℕ) → (ℕ → ℕ) → ℕ → ℕ → ℕ → ℕ → List ℕ → List ℕ
  walk across class step v zero x k ms = ms
  walk across class step v (suc f) x k ms =
      cond (ltb x across) (walk across class step v f (x + step x) (class x) (mark ms (bit x (min (class x) k) v))) ms

  unfoldable pub line_edges : ℕ → (ℕ → ℕ → ℕ) → (ℕ → ℕ → ℕ) → ℕ → List ℕ → List ℕ
  line_edges across class step n = up_to (λ v. walk across (λ u. class u v) (λ u. step u v) v across (step 0 v) (class 0 v)) n

unfoldable pub stores : ℕ → (ℕ → ℕ) → List ℕ → List ℕ
stores n f = up_to (λ v c. set c v (f v)) n

pub record Edged (p : BlockPass) (class : ℕ) (c ms : List ℕ) (v : ℕ) (ctx masks : List ℕ) : Type 0 where
  pub context : ctx ≡ stores v (λ _. class) c
  pub edge : masks ≡ block_edge (bit_in p) v (λ _. class) (λ i. get_or c i 0) ms

module _ (bit : ℕ → ℕ → ℕ → ℕ) (across along : ℕ) where
  unfoldable pub grid_pass : ℕ → ℕ → Bool → (ℕ → ℕ) → List ℕ → List ℕ
  grid_pass step class skip context ms =
      cond skip (block_edge bit along (λ _. class) context ms)
      (step_edges bit along step class ((across - 1) / step) (block_edge bit along (λ _. class) context ms))

  unfoldable pub cell_pass : (ℕ → ℕ → ℕ) → (ℕ → ℕ → ℕ) → Bool → (ℕ → ℕ) → List ℕ → List ℕ
  cell_pass class step skip context ms =
      cond skip (block_edge bit along (class 0) context ms) (line_edges bit across class step along (block_edge bit along (class 0) context ms))

abbrev pub pass_over : Bool → ℕ → Bool → ℕ → ℕ → ℕ → ℕ → BlockPass
pass_over luma half rowwise unit place across along =
    record { luma = luma; half = half; rowwise = rowwise; unit = unit; place = place; across = across; along = along }

abbrev pub columns_of : Bool → ℕ → ℕ → ℕ → ℕ → ℕ → BlockPass
columns_of luma half by4 bx4 w4 h4 = pass_over luma half false bx4 by4 w4 h4

abbrev pub rows_of : Bool → ℕ → ℕ → ℕ → ℕ → ℕ → BlockPass
rows_of luma half by4 bx4 w4 h4 = pass_over luma half true by4 bx4 h4 w4

pub data Reach (step : ℕ → ℕ) : ℕ → Type 0 where
  first : Reach step (step 0)
  more : {x : ℕ} → Reach step x → Reach step (x + step x)

unfoldable pub cell_at : Pass → ℕ → ℕ → ℕ → ℕ
cell_at columns what u v = cell what v u
cell_at rows what u v = cell (2 + what) u v

abbrev pub class_in : List ℕ → BlockPass → ℕ → ℕ → ℕ
class_in a p u v = get_or a (cell_at (pass_of p.rowwise) 0 u v) 0

abbrev pub step_in : List ℕ → BlockPass → ℕ → ℕ → ℕ
step_in a p u v = get_or a (cell_at (pass_of p.rowwise) 1 u v) 0

unfoldable pub zeros : List ℕ
zeros = replicate 4096 0

abbrev pub tables : List ℕ → ℕ → ℕ → ℕ → List ℕ
tables ms t w4 h4 = block ms t w4 h4 zeros

unfoldable pub grid_masks : BlockPass → BlockPass → (ℕ → ℕ) → ℕ → Bool → List ℕ → List ℕ → List ℕ → List ℕ
grid_masks c r class t skip a l ms =
    grid_pass (bit_in r) r.across r.along (Tx_High t) (class (Tx_High t)) skip (λ x. get_or a x 0)
    (grid_pass (bit_in c) c.across c.along (Tx_Wide t) (class (Tx_Wide t)) skip (λ y. get_or l y 0) ms)

unfoldable pub cell_masks : BlockPass → BlockPass → List ℕ → Bool → List ℕ → List ℕ → List ℕ → List ℕ
cell_masks c r txa skip a l ms =
    cell_pass (bit_in r) r.across r.along (class_in txa r) (step_in txa r) skip (λ x. get_or a x 0)
    (cell_pass (bit_in c) c.across c.along (class_in txa c) (step_in txa c) skip (λ y. get_or l y 0) ms)

abbrev pub whole_by : Bool → ℕ → ℕ → ℕ → ℕ → ℕ → ℕ → Bool
whole_by inter t w4 h4 w h m = (not inter || (eqb t 0 || eqb m 0)) || ((leb w4 w && leb h4 h) && not (has_bit m 0))

pub record Held (p : BlockPass) (len : ℕ) : Type 0 where
  pub half : (0 < p.half) × (p.half ≤ 16)
  pub unit : p.unit + p.across ≤ 32
  pub place : p.place + p.along ≤ 2 * p.half
  pub words : 640 ≤ len

pub record Told (a : List ℕ) (p : BlockPass) : Type 0 where
  pub tables : length a ≡ 4096
  pub class : (u v : ℕ) → u < p.across → v < p.along → class_in a p u v < classes p.luma
  pub steps : (u v : ℕ) → Reach (λ x. step_in a p x v) u → u < p.across → v < p.along → 0 < step_in a p u v

module _ (by4 bx4 w4 h4 : ℕ) where
  abbrev pub one_masks : Bool → ℕ → List ℕ → List ℕ → List ℕ → List ℕ
  one_masks skip t = grid_masks (columns_of true 16 by4 bx4 w4 h4) (rows_of true 16 by4 bx4 w4 h4) luma_class t skip

  abbrev pub intra_masks : ℕ → List ℕ → List ℕ → List ℕ → List ℕ
  intra_masks = one_masks false

  abbrev pub inter_masks : Bool → ℕ → List ℕ → List ℕ → List ℕ → List ℕ → List ℕ
  inter_masks skip t ms = cell_masks (columns_of true 16 by4 bx4 w4 h4) (rows_of true 16 by4 bx4 w4 h4) (tables ms t w4 h4) skip

  abbrev pub luma_masks : Bool → Bool → ℕ → List ℕ → List ℕ → List ℕ → List ℕ → List ℕ
  luma_masks inter skip t ms = cond inter (inter_masks skip t ms) (intra_masks t)

  abbrev pub chroma_masks : Bool → ℕ → ℕ → ℕ → List ℕ → List ℕ → List ℕ → List ℕ
  chroma_masks skip t ss-hor ss-ver = grid_masks (columns_of false (half_units ss-ver) by4 bx4 w4 h4) (rows_of false (half_units ss-hor) by4 bx4 w4 h4) chroma_class t skip

abbrev pub last_row : List ℕ → ℕ → ℕ → ℕ → ℕ → ℕ
last_row ms t w4 h4 x = get_or (tables ms t w4 h4) (cell_at rows 0 (h4 - 1) x) 0

abbrev pub last_column : List ℕ → ℕ → ℕ → ℕ → ℕ → ℕ
last_column ms t w4 h4 y = get_or (tables ms t w4 h4) (cell_at columns 0 (w4 - 1) y) 0

module _ (inter : Bool) (ms : List ℕ) (t w4 h4 : ℕ) where
  abbrev pub above_of : ℕ → ℕ
  above_of = cond inter (last_row ms t w4 h4) (λ _. luma_class (Tx_High t))

  abbrev pub left_of : ℕ → ℕ
  left_of = cond inter (last_column ms t w4 h4) (λ _. luma_class (Tx_Wide t))
